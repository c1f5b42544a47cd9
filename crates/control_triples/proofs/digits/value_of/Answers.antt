use Rattle.std.proofs.Common.{ap, ◌∙◌}
use Rattle.std.specs.Result.{result_ok}
use Rattle.control_triples.proofs.Numbers.{value_parsed}
use Rattle.control_triples.proofs.digits.value_of.Goals as goal

pub returns : goal.returns
returns c = c.ok.ensures.value ∙ ap result_ok (value_parsed c.args.digits.now c.parse.result c.requires c.parse.ensures.value.0)
