use Rattle.std.proofs.Common.{◌≡◌, ◌+◌, ◌-◌, ◌<◌, ◌≤◌, suc, false, length, refl, arith}
use Rattle.join_core.specs.Events.{is_idle}
use Rattle.join_core.specs.Levels.{nodes_of, plain}
use Rattle.join_core.proofs.Scans.{back-step, back-end, level-past}
use Rattle.join_core.proofs.Plain.{plain-long, level-of-plain}
use Rattle.join_core.proofs.levels.deepest_idle.Goals as goal

pub returns-then-has_idle-clause-deeper : goal.returns-then-has_idle-clause-deeper
returns-then-has_idle-clause-deeper c = λ e h.
    let ls = c.args.levels.now in
    level-past (λ n. is_idle n ≡ false) (plain ls) (length (plain ls) - c.loop-back.back) e (omega (arith, plain-long ls, h)) c.loop-back.invariant

pub loop-back-preserved : goal.loop-back-preserved
loop-back-preserved c =
    let ls = c.args.levels.now in
    let i = length ls - 1 - c.loop-back.back in
    let deep : i < length ls = omega arith in
    let h : i + suc c.loop-back.back ≡ length (plain ls) = omega (arith, plain-long ls) in
    back-step (plain ls) (plain ls) is_idle i c.loop-back.back (nodes_of c.index-levels-depth.result) refl h (level-of-plain ls i c.index-levels-depth.result deep c.index-levels-depth.is) (c.has_idle.ensures.no c.if-has_idle.false) c.loop-back.invariant

pub returns-clause-none : goal.returns-clause-none
returns-clause-none c =
    let ls = c.args.levels.now in
    let past : length (plain ls) ≤ c.loop-back.back = omega (arith, plain-long ls) in
    back-end (plain ls) is_idle c.loop-back.back past c.loop-back.invariant
