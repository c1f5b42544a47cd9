use Rattle.std.proofs.Common.{◌≡◌, false, subst}
use Rattle.std.specs.List.{All}
use Rattle.join_core.specs.Events.{has_ask}
use Rattle.join_core.specs.Levels.{LevelData, nodes_of, IsAsker}
use Rattle.join_core.proofs.Kept.{asker-is, none-asks}
use Rattle.join_core.proofs.level.Level.asker.Goals as goal

pub returns-in-Some-clause-some : goal.returns-in-Some-clause-some
returns-in-Some-clause-some c = subst (λ (l : LevelData). IsAsker l c.in-Some.key) c.self.view_is (asker-is _ _ _ _ _ c.self.invariant c.in-Some.key c.self.inside.unstarted.items c.in-Some.is c.asker_can_ask.ensures)

pub returns-in-None-clause-none : goal.returns-in-None-clause-none
returns-in-None-clause-none c = subst (λ (l : LevelData). All (λ n. has_ask n ≡ false) (nodes_of l)) c.self.view_is (none-asks _ _ _ _ _ c.self.invariant c.self.inside.unstarted.items c.in-None.is)
