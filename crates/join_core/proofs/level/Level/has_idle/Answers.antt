use Rattle.std.proofs.Common.{ℕ, ◌≡◌, ◌==◌, true, false, not, Bool, deque_len, ap, sym, subst, ◌∙◌}
use Rattle.std.specs.List.{All}
use Rattle.std.proofs.lemmas.Bool.{not-false}
use Rattle.join_core.specs.Events.{is_idle}
use Rattle.join_core.specs.Levels.{LevelData, nodes_of}
use Rattle.join_core.proofs.Kept.{some-idle, none-idle, eq-zero}
use Rattle.join_core.proofs.level.Level.has_idle.Goals as goal

pub returns-then-is_empty-clause-yes : goal.returns-then-is_empty-clause-yes
returns-then-is_empty-clause-yes c = λ t all.
    let two = some-idle _ _ _ _ _ c.self.invariant c.self.inside.unstarted.items (subst (λ (l : LevelData). All (λ n. is_idle n ≡ false) (nodes_of l)) (sym c.self.view_is) all) in
    let e : c.is_empty-then-is_empty.result ≡ true = c.is_empty-then-is_empty.ensures ∙ ap (λ (n : ℕ). n == 0) (c.self.inside.unstarted.ok.0 ∙ two.1) in
    let no : not true ≡ true = subst (λ (b : Bool). not b ≡ true) e t in
    cc

pub returns-then-is_empty-clause-no : goal.returns-then-is_empty-clause-no
returns-then-is_empty-clause-no c = λ t.
    subst (λ (l : LevelData). All (λ n. is_idle n ≡ false) (nodes_of l)) c.self.view_is
    (none-idle _ _ _ _ _ c.self.invariant c.self.inside.unstarted.items (c.is_empty.ensures.0 c.if-is_empty.true) (sym c.self.inside.unstarted.ok.0 ∙ eq-zero (deque_len c.self.inside.unstarted) (sym c.is_empty-then-is_empty.ensures ∙ not-false c.is_empty-then-is_empty.result t)))

pub returns-else-is_empty-clause-yes : goal.returns-else-is_empty-clause-yes
returns-else-is_empty-clause-yes c = λ t all.
    let two = some-idle _ _ _ _ _ c.self.invariant c.self.inside.unstarted.items (subst (λ (l : LevelData). All (λ n. is_idle n ≡ false) (nodes_of l)) (sym c.self.view_is) all) in
    let yes : c.is_empty.result ≡ true = c.is_empty.ensures.1 two.0 in
    let no : c.is_empty.result ≡ false = c.if-is_empty.false in
    cc
