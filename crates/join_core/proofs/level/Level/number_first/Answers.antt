use Rattle.std.proofs.Common.{ℕ, ◌≡◌, ◌+◌, ◌++◌, true, false, Bool, List, [], ◌∷◌, cond, ap, sym, subst, ◌∙◌, append-nil, arith}
use Rattle.std.specs.List.{All}
use Rattle.std.specs.Map.{values_of}
use Rattle.join_core.specs.Nodes.{NodeData}
use Rattle.join_core.specs.Events.{is_idle, has_ask}
use Rattle.join_core.specs.Levels.{LevelData, IsKept, marked}
use Rattle.join_core.proofs.Keyed.{marked-push}
use Rattle.join_core.proofs.Kept.{keys-below, kept-begun, begun-first, idle-no-ask}
use Rattle.join_core.proofs.level.Level.number_first.Goals as goal

pub begin-requires-clause-idle : goal.begin-requires-clause-idle
begin-requires-clause-idle c = keys-below _ _ _ _ _ c.self.invariant

pub invariant_of-self-2 : goal.invariant_of-self-2
invariant_of-self-2 c =
    let idle : is_idle c.in_ok-node.node ≡ true = ap is_idle c.in_ok-node.ensures in
    let next : c.in-Some-checked_add.next ≡ c.self.inside.next + 1 = omega (arith, c.in-Some-checked_add.ensures) in
    subst (λ (k : ℕ). IsKept k c.begin.new.started c.begin.new.paused c.self.inside.asking c.self.inside.tickets) (sym next)
    (kept-begun c.self.inside.next c.in_ok-node.node c.self.inside.started c.begin.new.started c.self.inside.paused c.begin.new.paused c.self.inside.asking c.self.inside.tickets c.self.invariant c.in_ok-begin.ensures.entries c.in_ok-begin.ensures.noted c.in_ok-begin.ensures.ordered c.in_ok-begin.ensures.keys idle)

pub returns-clause-asks : goal.returns-clause-asks
returns-clause-asks c =
    let idle : is_idle c.in_ok-node.node ≡ true = ap is_idle c.in_ok-node.ensures in
    ap (λ (l : List (ℕ × NodeData)). marked has_ask l) c.in_ok-begin.ensures.entries ∙ marked-push has_ask c.self.inside.next c.in_ok-node.node c.self.inside.started.entries
    ∙ ap (λ (b : Bool). marked has_ask c.self.inside.started.entries ++ cond b (c.self.inside.next ∷ []) []) (idle-no-ask c.in_ok-node.node idle) ∙ append-nil (marked has_ask c.self.inside.started.entries) ∙ ap (λ (l : LevelData). marked has_ask l.started) c.self.view_is

pub returns-clause-first : goal.returns-clause-first
returns-clause-first c =
    let idle : is_idle c.in_ok-node.node ≡ true = ap is_idle c.in_ok-node.ensures in
    let busy : All (λ n. is_idle n ≡ false) (values_of c.self.inside.started.entries) = subst (λ (l : LevelData). All (λ n. is_idle n ≡ false) (values_of l.started)) (sym c.self.view_is) c.requires.busy in
    begun-first c.self.inside.next c.in_ok-node.node c.self.inside.started c.begin.new.started c.pop_front.new.self.items c.self.invariant.below busy c.in_ok-begin.ensures.entries c.in_ok-begin.ensures.noted.now idle c.idle_can_ask.ensures
