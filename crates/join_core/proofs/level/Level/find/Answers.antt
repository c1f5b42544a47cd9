use Rattle.std.proofs.Common.{◌≡◌, false, sym, subst}
use Rattle.std.specs.Prelude.{is_some}
use Rattle.std.specs.List.{All}
use Rattle.join_core.specs.Events.{waits_for}
use Rattle.join_core.specs.Levels.{LevelData, nodes_of}
use Rattle.join_core.proofs.Kept.{find-none, find-wrong}
use Rattle.join_core.proofs.level.Level.find.Goals as goal

pub returns-in-None-waits_of-clause-none : goal.returns-in-None-waits_of-clause-none
returns-in-None-waits_of-clause-none c = absurd (find-wrong _ _ _ _ _ c.self.invariant c.args.ticket c.in-Some.key.now (sym c.in-Some.ensures.value) (λ n e. c.in-None-waits_of.ensures.none n e))

pub returns-in-None-clause-none : goal.returns-in-None-clause-none
returns-in-None-clause-none c =
    subst (λ (l : LevelData). All (λ n. is_some (waits_for c.args.ticket n) ≡ false) (nodes_of l)) c.self.view_is
    (find-none _ _ _ _ _ c.self.invariant c.args.ticket c.self.inside.unstarted.items (sym c.in-None.ensures.value))
