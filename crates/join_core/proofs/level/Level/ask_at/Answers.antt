-- The ticket is noted, and the node of the number asks.
use Rattle.std.proofs.Common.{ℕ, ◌≡◌, Bool, [], set, Option, Some, None, if◌then◌else◌, refl, ap, sym, subst, ◌∙◌, List}
use Rattle.std.specs.Map.{lookup}
use Rattle.std.specs.Set.{remove_key}
use Rattle.join_core.specs.Events.{asked, has_ask}
use Rattle.join_core.specs.Levels.{LevelData, nodes_of, spot, is_key, marked, times, tickets_at, level}
use Rattle.join_core.proofs.Kept.{kept-asked, kept-same, noted-forgot, nodes-set}
use Rattle.std.proofs.lemmas.Result.{IfOk-from_err}
use Rattle.list_laws.proofs.Results.{any_err}
use Rattle.join_core.specs.Nodes.{NodeData}
use Rattle.join_core.proofs.level.Level.ask_at.Goals as goal

pub invariant_of-self : goal.invariant_of-self
invariant_of-self c = kept-same _ c.self.inside.started c.self.inside.started c.self.inside.paused c.self.inside.paused _ c.self.inside.tickets c.note.new.tickets c.self.invariant refl refl c.in_err-note.ensures.err

pub returns-in_err-note-clause-done : goal.returns-in_err-note-clause-done
returns-in_err-note-clause-done c = λ n g. IfOk-from_err _ _ c.from_residual.ensures.0

pub returns-in_err-note-clause-round : goal.returns-in_err-note-clause-round
returns-in_err-note-clause-round c = λ n g. IfOk-from_err _ _ c.from_residual.ensures.0

pub returns-in_err-note-clause-asked_by : goal.returns-in_err-note-clause-asked_by
returns-in_err-note-clause-asked_by c = λ n g. IfOk-from_err _ _ c.from_residual.ensures.0

pub returns-in_err-note-clause-failed : goal.returns-in_err-note-clause-failed
returns-in_err-note-clause-failed c = any_err c.from_residual.result _ c.self.view_is

pub ask_of-requires-clause-found : goal.ask_of-requires-clause-found
ask_of-requires-clause-found c = (c.requires.found.0, subst (λ (l : LevelData). lookup (is_key c.args.key) l.started ≡ Some c.requires.found.0) (sym c.self.view_is) c.requires.found.1)

pub ask_of-requires-clause-can_ask : goal.ask_of-requires-clause-can_ask
ask_of-requires-clause-can_ask c = λ n g. c.requires.can_ask n (subst (λ (l : LevelData). lookup (is_key c.args.key) l.started ≡ Some n) c.self.view_is g)

pub invariant_of-self-in-Ok : goal.invariant_of-self-in-Ok
invariant_of-self-in-Ok c =
    let n = c.requires.found in
    let e : lookup (is_key c.args.key) c.self.inside.started.entries ≡ Some n.0 = subst (λ (l : LevelData). lookup (is_key c.args.key) l.started ≡ Some n.0) (sym c.self.view_is) n.1 in
    let alone : remove_key (is_key c.args.key) (marked has_ask c.self.inside.started.entries) ≡ [] = subst (λ (l : LevelData). remove_key (is_key c.args.key) (marked has_ask l.started) ≡ []) (sym c.self.view_is) c.requires.alone in
    let new : (q : ℕ) → times c.args.ticket (tickets_at (lookup (is_key q) c.self.inside.started.entries)) ≡ 0 = subst (λ (l : LevelData). (q : ℕ) → times c.args.ticket (tickets_at (lookup (is_key q) l.started)) ≡ 0) (sym c.self.view_is) c.requires.new_ticket in
    let more : c.in-Ok.more ≡ has_ask (asked c.args.ticket n.0) = c.in-Ok.ensures.more n.0 e in
    kept-asked _ c.args.key c.args.ticket n.0 c.self.inside.started c.ask_of.new.started c.self.inside.paused c.remove.new.self c.self.inside.asking c.if_more-self-inside.result c.self.inside.tickets c.note.new.tickets c.self.invariant e (c.requires.can_ask n.0 n.1) alone new (c.in-Ok.ensures.done n.0 e) c.in_ok-note.ensures.ok c.remove.ensures.keys
    (c.if_more-self-inside.ensures ∙ ap (λ (b : Bool). let o : Option ℕ = if b then Some c.args.key else None in o) more)

pub invariant_of-self-in-Err : goal.invariant_of-self-in-Err
invariant_of-self-in-Err c =
    let new : (q : ℕ) → times c.args.ticket (tickets_at (lookup (is_key q) c.self.inside.started.entries)) ≡ 0 = subst (λ (l : LevelData). (q : ℕ) → times c.args.ticket (tickets_at (lookup (is_key q) l.started)) ≡ 0) (sym c.self.view_is) c.requires.new_ticket in
    kept-same _ c.self.inside.started c.ask_of.new.started c.self.inside.paused c.self.inside.paused _ c.self.inside.tickets c.forget.new.tickets c.self.invariant c.in-Err.ensures.failed refl
    (noted-forgot _ c.self.inside.started c.self.inside.paused _ c.self.inside.tickets c.self.invariant c.args.ticket c.args.key c.note.new.tickets c.forget.new.tickets new c.in_ok-note.ensures.ok c.forget.ensures)

pub returns-in-Ok-clause-done : goal.returns-in-Ok-clause-done
returns-in-Ok-clause-done c = λ n g.
    let e : lookup (is_key c.args.key) c.self.inside.started.entries ≡ Some n = subst (λ (l : LevelData). lookup (is_key c.args.key) l.started ≡ Some n) (sym c.self.view_is) g in
    nodes-set c.self.inside.started.entries c.ask_of.new.started.entries c.self.inside.unstarted.items c.args.key n (asked c.args.ticket n) e (c.in-Ok.ensures.done n e).entries
    ∙ ap (λ (l : LevelData). set (nodes_of l) (spot c.args.key l.started) (asked c.args.ticket n)) c.self.view_is

pub returns-in-Ok-clause-round : goal.returns-in-Ok-clause-round
returns-in-Ok-clause-round c = λ n g. c.in-Ok.ensures.round n (subst (λ (l : LevelData). lookup (is_key c.args.key) l.started ≡ Some n) (sym c.self.view_is) g)

pub returns-in-Ok-clause-asked_by : goal.returns-in-Ok-clause-asked_by
returns-in-Ok-clause-asked_by c = λ n g. c.in-Ok.ensures.asked_by n (subst (λ (l : LevelData). lookup (is_key c.args.key) l.started ≡ Some n) (sym c.self.view_is) g)

pub returns-in-Err-clause-failed : goal.returns-in-Err-clause-failed
returns-in-Err-clause-failed c = ap (λ (es : List (ℕ × NodeData)). level es c.self.inside.unstarted.items) c.in-Err.ensures.failed ∙ c.self.view_is
