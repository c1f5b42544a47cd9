use Rattle.std.proofs.Common.{ℕ, ◌-◌, length, ap, ◌∙◌, arith}
use Rattle.std.specs.List.{count_by}
use Rattle.join_core.specs.Events.{works}
use Rattle.join_core.specs.Levels.{LevelData, nodes_of}
use Rattle.join_core.proofs.Kept.{paused-few, works-are}
use Rattle.join_core.proofs.level.Level.working.Goals as goal

pub overflow_sub-result : goal.overflow_sub-result
overflow_sub-result c = omega (arith, c.len.ensures.len, c.len-2.ensures.len, paused-few _ _ _ _ _ c.self.invariant)

pub returns : goal.returns
returns c =
    ap (λ (k : ℕ). k - c.len-2.result) c.len.ensures.len ∙ ap (λ (k : ℕ). length c.self.inside.started.entries - k) c.len-2.ensures.len ∙ works-are _ _ _ _ _ c.self.invariant c.self.inside.unstarted.items ∙ ap (λ (l : LevelData). count_by works (nodes_of l)) c.self.view_is
