use Rattle.std.proofs.Common.{ℕ, ◌≡◌, ◌+◌, ◌<◌, min, length, ap, ◌∙◌, arith}
use Rattle.join_core.specs.Levels.{nodes_of, plain}
use Rattle.join_core.proofs.Scans.{open-step}
use Rattle.join_core.proofs.Plain.{plain-long, level-of-plain}
use Rattle.join_core.proofs.levels.open_nodes.Goals as goal

twice : (a b : ℕ) → min (a + min b 18446744073709551615) 18446744073709551615 ≡ min (a + b) 18446744073709551615
twice a b = omega arith

pub loop-level-preserved : goal.loop-level-preserved
loop-level-preserved c =
    let ls = c.args.levels.now in
    let deep : c.loop-level.level-index < length ls = omega arith in
    let below : c.loop-level.level-index < length (plain ls) = omega (arith, plain-long ls, deep) in
    c.saturating_add-count.ensures ∙ ap (λ (k : ℕ). min (c.loop-level.count + k) 18446744073709551615) c.len.ensures ∙ twice c.loop-level.count (length (nodes_of c.level-item.result)) ∙ open-step (plain ls) c.loop-level.level-index (nodes_of c.level-item.result) c.loop-level.count below (level-of-plain ls c.loop-level.level-index c.level-item.result deep c.level-item.is) c.loop-level.invariant
