use Rattle.std.proofs.Common.{sym}
use Rattle.control_triples.specs.LengthLaws.{length_equal}
use Rattle.control_triples.proofs.order.compare.Goals as goal

pub returns-then-is_same : goal.returns-then-is_same
returns-then-is_same c = sym ((length_equal c.args.a.now c.args.b.now).1 (c.is_same.ensures c.if-is_same.true))
