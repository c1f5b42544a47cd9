use Rattle.std.proofs.Common.{ℕ, ◌+◌, ◌<◌, min, length, ap, ◌∙◌, arith}
use Rattle.join_core.specs.Levels.{nodes_of, plain}
use Rattle.join_core.proofs.Scans.{working-step}
use Rattle.join_core.proofs.Plain.{plain-long, level-of-plain}
use Rattle.join_core.proofs.levels.working_nodes.Goals as goal

pub loop-level-preserved : goal.loop-level-preserved
loop-level-preserved c =
    let ls = c.args.levels.now in
    let deep : c.loop-level.level-index < length ls = omega arith in
    let below : c.loop-level.level-index < length (plain ls) = omega (arith, plain-long ls, deep) in
    c.saturating_add-count.ensures ∙ ap (λ (k : ℕ). min (c.loop-level.count + k) 18446744073709551615) c.working.ensures ∙ working-step (plain ls) c.loop-level.level-index (nodes_of c.level-item.result) c.loop-level.count below (level-of-plain ls c.loop-level.level-index c.level-item.result deep c.level-item.is) c.loop-level.invariant
