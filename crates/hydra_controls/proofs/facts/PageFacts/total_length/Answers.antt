use Rattle.std.proofs.Common.{arith}
use Rattle.hydra_controls.specs.Facts.{quads_of}
use Rattle.hydra_controls.specs.LineTexts.{text_of_line}
use Rattle.hydra_controls.proofs.WholeLaws.{line_counted, lines_counted}
use Rattle.hydra_controls.proofs.facts.PageFacts.total_length.Goals as goal

pub loop-i-preserved : goal.loop-i-preserved
loop-i-preserved c = (
  line_counted (quads_of c.args.self) c.loop-i.i c.loop-i.sum c.length-sum.result (text_of_line c.line.result) (omega (arith, c.loop-i-test.true, c.quad_count-i-end.ensures.count)) c.line.ensures
      c.length-sum.ensures.length c.loop-i.invariant.0,
  omega (arith, c.loop-i.invariant.1, c.length-sum.ensures.small),
)

pub returns : goal.returns
returns c = record {
  is = lines_counted (quads_of c.args.self) c.loop-i.i c.loop-i.sum (omega (arith, c.loop-i-test.false, c.quad_count-i-end.ensures.count)) c.loop-i.invariant.0;
  small = omega (arith, c.loop-i.invariant.1, c.quad_count-i-end.ensures.few);
}
