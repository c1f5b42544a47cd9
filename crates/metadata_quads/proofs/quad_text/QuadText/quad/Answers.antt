use Rattle.metadata_quads.proofs.TermLaws.{quad_is}
use Rattle.metadata_quads.proofs.quad_text.QuadText.quad.Goals as goal

pub returns-in-Ok : goal.returns-in-Ok
returns-in-Ok c = quad_is c.args.self c.in_ok-triple.triple c.in-Ok.graph c.in_ok-triple.ensures c.in-Ok.ensures
