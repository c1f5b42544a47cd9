use Rattle.std.proofs.Common.{◌≡◌, true, false, subst}
use Rattle.std.specs.List.{All}
use Rattle.std.specs.Map.{values_of}
use Rattle.join_core.specs.Events.{is_idle}
use Rattle.join_core.specs.Levels.{LevelData, IsFirstIdle}
use Rattle.join_core.proofs.Kept.{first-is, none-paused}
use Rattle.join_core.proofs.level.Level.first_paused.Goals as goal

pub returns-in-Some-clause-some : goal.returns-in-Some-clause-some
returns-in-Some-clause-some c = subst (λ (l : LevelData). IsFirstIdle l c.in-Some.key.now) c.self.view_is (first-is _ _ _ _ _ c.self.invariant c.in-Some.key.now c.self.inside.unstarted.items c.in-Some.ensures.first c.idle_can_ask.ensures)

pub returns-in-None-clause-none : goal.returns-in-None-clause-none
returns-in-None-clause-none c =
    subst (λ (l : LevelData). All (λ n. is_idle n ≡ false) (values_of l.started)) c.self.view_is
    (none-paused _ _ _ _ _ c.self.invariant (λ h. let no : false ≡ true = c.in-None.ensures.variant.1 h in cc))
