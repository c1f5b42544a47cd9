use Rattle.std.proofs.Common.{arith}
use Rattle.hydra_controls.specs.Facts.{quads_of}
use Rattle.hydra_controls.proofs.WholeLaws.{some_quad}
use Rattle.metadata_quads.proofs.QuadLaws.{quad_taken}
use Rattle.metadata_quads.proofs.pages.quads.Goals as goal

pub loop-i-preserved : goal.loop-i-preserved
loop-i-preserved c =
    quad_taken (quads_of c.args.facts) c.loop-i.quads.items c.push_quad.new.quads.items c.loop-i.i some_quad (omega (arith, c.loop-i-test.true, c.quad_count-count.ensures.count)) c.loop-i.invariant
    (c.in_ok-push_quad.ensures some_quad)
