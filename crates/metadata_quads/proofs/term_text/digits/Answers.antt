use Rattle.hydra_controls.proofs.Iris.{decimal-plain}
use Rattle.metadata_quads.proofs.term_text.digits.Goals as goal

pub of_number-requires : goal.of_number-requires
of_number-requires c = decimal-plain c.args.number
