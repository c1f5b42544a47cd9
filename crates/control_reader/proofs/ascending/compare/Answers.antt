use Rattle.std.proofs.Common.{sym}
use Rattle.rdf_terms.specs.OrderLaws.{term_equal}
use Rattle.control_reader.proofs.ascending.compare.Goals as goal

pub returns-then-same : goal.returns-then-same
returns-then-same c = sym ((term_equal c.args.a.now c.args.b.now).1 (c.same.ensures.same.0 c.if-same.true))
