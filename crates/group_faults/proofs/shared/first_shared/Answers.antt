use Rattle.std.proofs.Common.{◌≡◌, true, false, arith}
use Rattle.std.specs.BTreeMap.{get_by_text}
use Rattle.group_faults.proofs.Labels.{shared_found, shared_goes}
use Rattle.group_faults.proofs.shared.first_shared.Goals as goal

pub returns-then-branch : goal.returns-then-branch
returns-then-branch c =
    let b : c.in_ok-take.field-0 ≡ true = let h = c.if-branch.true in cc in
    shared_found (λ q. get_by_text c.loop-word.walk.first q) c.loop-word.walk.block c.args.words.now c.loop-word.word-index c.word-item.result c.loop-word-test.true c.word-item.is (c.in_ok-take.ensures.shared b) _ c.loop-word.invariant.1

pub loop-word-preserved : goal.loop-word-preserved
loop-word-preserved c =
    let b : c.in_ok-take.field-0 ≡ false = let h = c.if-branch.false in cc in
    let k = c.in_ok-take.ensures.within in
    let j = c.loop-word.invariant.0 in
    (omega (arith, j, k), shared_goes (λ q. get_by_text c.loop-word.walk.first q) _ c.loop-word.walk.block _ c.args.words.now c.loop-word.word-index c.word-item.result c.loop-word-test.true c.word-item.is (c.in_ok-take.ensures.other b) _ c.loop-word.invariant.1)
