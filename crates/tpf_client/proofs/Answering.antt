-- What was asked was answered, but for what a pool holds.
use Rattle.std.proofs.Common.{ℕ, ◌≡◌, ◌++◌, List, [], ◌∷◌, None, sym, subst, append-nil}
use Rattle.std.specs.List.Sorted.{IsPermutation}
use Rattle.std.proofs.lemmas.List.Sorted.{IsPermutation-refl, IsPermutation-sym, IsPermutation-trans, IsPermutation-cons, IsPermutation-append_left, IsPermutation-middle}
use Rattle.tpf_base.specs.Links.{WireState}
use Rattle.request_pool.specs.Faults.{kept_of}
use Rattle.request_pool.specs.Pools.{Pooled, Ask, held}
use Rattle.tpf_client.specs.Traffic.{PoolEvent, Asked, Came, Waited, Broke, Travels, Comes, StepWaits, StepBreaks}
use Rattle.tpf_client.specs.Turns.{asked_in, answered_in}
use Rattle.tpf_client.proofs.Distinct.{put-held}
use Rattle.tpf_client.proofs.Fewest.{no-break}

-- one ask more is held, and one less is to come
asked-then : (ask : Ask) (p q asks x : List Ask) → IsPermutation q (ask ∷ p) → IsPermutation (q ++ asks) x → IsPermutation (p ++ ask ∷ asks) x
asked-then ask p q asks x h i =
    IsPermutation-trans (p ++ ask ∷ asks) (ask ∷ (p ++ asks)) x (IsPermutation-middle p ask asks)
    (IsPermutation-trans (ask ∷ (p ++ asks)) (q ++ asks) x (IsPermutation-append_left asks (ask ∷ p) q (IsPermutation-sym q (ask ∷ p) h)) i)

came-then : (ask : Ask) (p q asks x : List Ask) → IsPermutation p (ask ∷ q) → IsPermutation (q ++ asks) x → IsPermutation (p ++ asks) (ask ∷ x)
came-then ask p q asks x h i = IsPermutation-trans (p ++ asks) (ask ∷ (q ++ asks)) (ask ∷ x) (IsPermutation-append_left asks p (ask ∷ q) h) (IsPermutation-cons ask (q ++ asks) x i)

waited-then : (p q asks x : List Ask) → IsPermutation p q → IsPermutation (q ++ asks) x → IsPermutation (p ++ asks) x
waited-then p q asks x h i = IsPermutation-trans (p ++ asks) (q ++ asks) x (IsPermutation-append_left asks p q h) i

nothing-asked : (p q : Pooled) → q ≡ p → IsPermutation (held p ++ []) (held q)
nothing-asked p q e = subst (λ (x : Pooled). IsPermutation (held p ++ []) (held x)) (sym e) (subst (λ (l : List Ask). IsPermutation l (held p)) (sym (append-nil (held p))) (IsPermutation-refl (held p)))

answers-so : (allows : List ℕ → ℕ → List ℕ → List ℕ → Type 0) (events : List PoolEvent) (p q : Pooled) (v w : WireState) → Travels allows events p q v w → q.fault ≡ None → IsPermutation (held p ++ asked_in events) (answered_in events ++ held q)
answers-so allows [] p q v w t none = nothing-asked p q t.0
answers-so allows (Asked ask ∷ events) p q v w t none =
    asked-then ask (held p) (held t.0.pool) (asked_in events) (answered_in events ++ held q) (put-held ask p t.0.pool t.1.happens.0) (answers-so allows events t.0.pool q t.0.wire w t.2 none)
answers-so allows (Came ask reply ∷ events) p q v w t none =
    let h : Comes ask reply p t.0.pool v t.0.wire = t.1.happens in
    came-then ask (held p) (held t.0.pool) (asked_in events) (answered_in events ++ held q) h.others (answers-so allows events t.0.pool q t.0.wire w t.2 none)
answers-so allows (Waited ∷ events) p q v w t none =
    let h : StepWaits p t.0.pool v t.0.wire = t.1.happens in
    waited-then (held p) (held t.0.pool) (asked_in events) (answered_in events ++ held q) h.others (answers-so allows events t.0.pool q t.0.wire w t.2 none)
answers-so allows (Broke fault ∷ events) p q v w t none = let h : StepBreaks fault p t.0.pool v t.0.wire = t.1.happens in absurd (no-break allows (kept_of fault) events t.0.pool q t.0.wire w h.kept t.2 none)

-- where nothing is held at first and at last
pub all-answered : (allows : List ℕ → ℕ → List ℕ → List ℕ → Type 0) (events : List PoolEvent) (p q : Pooled) (v w : WireState) → Travels allows events p q v w → q.fault ≡ None → held p ≡ [] → held q ≡ [] → IsPermutation (asked_in events) (answered_in events)
all-answered allows events p q v w t none first last =
    subst (λ (l : List Ask). IsPermutation (asked_in events) l) (append-nil (answered_in events))
    (subst (λ (l : List Ask). IsPermutation (asked_in events) (answered_in events ++ l)) last (subst (λ (l : List Ask). IsPermutation (l ++ asked_in events) (answered_in events ++ held q)) first (answers-so allows events p q v w t none)))
