-- Each part stands behind those before it.
use Rattle.std.proofs.lemmas.Result.{IfOk-from_err}
use Rattle.command_endings.proofs.LineLemmas.{all_parts, one_part}
use Rattle.command_endings.proofs.lines.line_of.Goals as goal

pub loop-part-init : goal.loop-part-init
loop-part-init c = c.new-text.ensures.items

pub returns-in_err-extend_from_slice : goal.returns-in_err-extend_from_slice
returns-in_err-extend_from_slice c = IfOk-from_err _ _ c.from_residual.ensures.0

pub loop-part-preserved : goal.loop-part-preserved
loop-part-preserved c = one_part c.args.parts.now c.loop-part.part-index _ c.loop-part.text.items _ c.loop-part-test.true c.loop-part.invariant c.in_ok-extend_from_slice.ensures.items

pub returns : goal.returns
returns c = all_parts c.args.parts.now c.loop-part.part-index c.loop-part.text.items c.loop-part-test.false c.loop-part.invariant
