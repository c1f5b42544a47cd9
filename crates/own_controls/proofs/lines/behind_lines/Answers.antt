use Rattle.std.proofs.Common.{ℕ, List, [], get_or, arith}
use Rattle.std.specs.Borrow.{Bor}
use Rattle.std.proofs.lemmas.List.{get_or_default}
use Rattle.own_controls.specs.declared.lines.LineText.{LineText}
use Rattle.own_controls.proofs.Sections.{one_more, no_more}
use Rattle.own_controls.proofs.lines.behind_lines.Goals as goal

pub loop-line-preserved : goal.loop-line-preserved
loop-line-preserved c = λ end left.
    let nothing : Bor (List ℕ) = record { ref_ptr = (0, 0); now = [] } in
    let none : LineText = record { opening = nothing; one = nothing; middle = nothing; other = nothing; closing = nothing } in
    let all = c.args.lines.now in
    let i = c.loop-line.line-index in
    let below = c.loop-line-test.true in
    c.loop-line.invariant end
    (one_more c.args.ending.now all i (get_or all i none) below (get_or_default all i none (get_or all i none) below) c.loop-line.rest.now c.in_ok-rest.rest.now end c.in_ok-rest.ensures left)

pub returns : goal.returns
returns c =
    let past = c.loop-line-test.false in
    c.loop-line.invariant c.loop-line.rest.now (no_more c.args.ending.now c.args.lines.now c.loop-line.line-index c.loop-line.rest.now (omega (arith, past)))
