use Rattle.std.proofs.Common.{◌≡◌, Some, sym, subst}
use Rattle.std.specs.Map.{lookup}
use Rattle.join_core.specs.Levels.{LevelData, is_key}
use Rattle.join_core.proofs.level.Level.next_page.Goals as goal

pub returns-clause-after : goal.returns-clause-after
returns-clause-after c = λ n e. c.next_page_of.ensures.after n (subst (λ (l : LevelData). lookup (is_key c.args.key) l.started ≡ Some n) (sym c.self.view_is) e)
