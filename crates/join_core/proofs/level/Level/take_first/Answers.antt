use Rattle.std.proofs.Common.{ℕ, ◌≡◌, List, Some, set, ap, sym, subst, ◌∙◌}
use Rattle.std.specs.Map.{lookup}
use Rattle.join_core.specs.declared.first.First.TheVariants.{Got}
use Rattle.join_core.specs.Nodes.{NodeData}
use Rattle.join_core.specs.Events.{with_first_at}
use Rattle.join_core.specs.Levels.{LevelData, level, nodes_of, spot, is_key}
use Rattle.join_core.proofs.Kept.{kept-held, nodes-set}
use Rattle.join_core.proofs.level.Level.take_first.Goals as goal

pub invariant_of-self : goal.invariant_of-self
invariant_of-self c =
    let n = c.requires in
    let e : lookup (is_key c.args.key) c.self.inside.started.entries ≡ Some n.0 = subst (λ (l : LevelData). lookup (is_key c.args.key) l.started ≡ Some n.0) (sym c.self.view_is) n.1 in
    let held = rw c.in-Ok-None.field-0-is at (c.in-Ok-None.ensures.held n.0 e) in
    kept-held _ c.args.key c.args.ticket c.args.index c.args.page n.0 c.self.inside.started c.take_first_of.new.started c.self.inside.paused _ c.self.inside.tickets c.forget.new.tickets c.self.invariant e n.2 held.1 c.forget.ensures

pub returns-in-Ok-None-clause-held : goal.returns-in-Ok-None-clause-held
returns-in-Ok-None-clause-held c = λ n g.
    let e : lookup (is_key c.args.key) c.self.inside.started.entries ≡ Some n = subst (λ (l : LevelData). lookup (is_key c.args.key) l.started ≡ Some n) (sym c.self.view_is) g in
    let held = rw c.in-Ok-None.field-0-is at (c.in-Ok-None.ensures.held n e) in (
      held.0,
      nodes-set c.self.inside.started.entries c.take_first_of.new.started.entries c.self.inside.unstarted.items c.args.key n (with_first_at c.args.index (Got c.args.page) n) e held.1.entries
          ∙ ap (λ (l : LevelData). set (nodes_of l) (spot c.args.key l.started) (with_first_at c.args.index (Got c.args.page) n)) c.self.view_is,
    )

pub returns-in-Ok-Some-clause-full : goal.returns-in-Ok-Some-clause-full
returns-in-Ok-Some-clause-full c = λ n g.
    let e : lookup (is_key c.args.key) c.self.inside.started.entries ≡ Some n = subst (λ (l : LevelData). lookup (is_key c.args.key) l.started ≡ Some n) (sym c.self.view_is) g in
    let full = rw c.in-Ok-Some.field-0-is at (c.in-Ok-Some.ensures.full n e) in
    (full.0, ap (λ (es : List (ℕ × NodeData)). level es c.self.inside.unstarted.items) full.1 ∙ c.self.view_is)

pub returns-in-Ok-Some-clause-chosen : goal.returns-in-Ok-Some-clause-chosen
returns-in-Ok-Some-clause-chosen c = λ n g.
    let e : lookup (is_key c.args.key) c.self.inside.started.entries ≡ Some n = subst (λ (l : LevelData). lookup (is_key c.args.key) l.started ≡ Some n) (sym c.self.view_is) g in
    rw c.in-Ok-Some.field-0-is at (c.in-Ok-Some.ensures.chosen n e)
