use Rattle.std.proofs.Common.{◌∙◌}
use Rattle.hydra_controls.proofs.Iris.{decimal-plain}
use Rattle.metadata_quads.proofs.Numbers.{integer_is}
use Rattle.metadata_quads.proofs.term_text.count.Goals as goal

pub of_number-requires : goal.of_number-requires
of_number-requires c = decimal-plain c.args.number

pub returns-clause-term : goal.returns-clause-term
returns-clause-term c = c.of_number.ensures.term ∙ integer_is c.args.number
