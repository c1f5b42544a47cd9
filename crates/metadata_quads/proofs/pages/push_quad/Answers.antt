use Rattle.hydra_controls.specs.Facts.{quads_of}
use Rattle.metadata_quads.specs.TermTexts.{quad_of}
use Rattle.metadata_quads.proofs.QuadLaws.{quad_pushed}
use Rattle.metadata_quads.proofs.pages.push_quad.Goals as goal

pub returns : goal.returns
returns c = λ d.
    quad_pushed (quads_of c.args.facts) c.args.quads.now.items c.push.new.self.items c.args.i c.in_ok-quad.quad (quad_of c.quad.result) d (c.quad.ensures.said d) c.in_ok-quad.ensures c.in_ok-push.ensures.items
