use Rattle.std.proofs.Common.{true, false, sym, ◌∙◌}
use Rattle.control_reader.proofs.Distinct.{in_order}
use Rattle.control_reader.proofs.ascending.ascend.Goals as goal

pub returns-then-ascends : goal.returns-then-ascends
returns-then-ascends c = λ _. in_order false c.args.quads.now (sym c.ascends.ensures ∙ c.if-ascends.true)

pub returns : goal.returns
returns c = λ h. in_order true c.args.quads.now (sym c.ascends-2.ensures ∙ h)
