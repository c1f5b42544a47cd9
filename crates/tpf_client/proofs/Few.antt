-- How many asks wait for their replies at once.
use Rattle.std.proofs.Common.{ℕ, suc, ◌≡◌, ◌+◌, ◌-◌, ◌≤◌, ◌++◌, List, [], ◌∷◌, map, length, None, refl, sym, ap, subst, arith}
use Rattle.std.proofs.Math.Nat.{le_trans}
use Rattle.std.specs.List.Sorted.{IsPermutation}
use Rattle.std.proofs.lemmas.List.Sorted.{length_permutation}
use Rattle.tpf_base.specs.Links.{WireState}
use Rattle.request_pool.specs.Faults.{kept_of}
use Rattle.request_pool.specs.Pools.{Pooled, Ask, held}
use Rattle.tpf_client.specs.Traffic.{PoolEvent, Asked, Came, Waited, Broke, Travels, Puts, Comes, StepWaits, StepBreaks}
use Rattle.tpf_client.specs.Asking.{PutsAll}
use Rattle.tpf_client.specs.Turns.{WaitFew, asked_in}
use Rattle.tpf_client.proofs.Accounting.{asked-asks}
use Rattle.tpf_client.proofs.Distinct.{put-held}
use Rattle.tpf_client.proofs.Fewest.{no-break}

-- ---- how many asks a pool holds

one-more : (n m : ℕ) → suc n ≡ m → m ≡ n + 1
one-more n m e = omega (arith, e)

one-less : (n m : ℕ) → suc n ≡ m → n ≡ m - 1
one-less n m e = omega (arith, e)

put-count : (ask : Ask) (p q : Pooled) → Puts ask p q → length (held q) ≡ length (held p) + 1
put-count ask p q h = one-more (length (held p)) (length (held q)) (length_permutation (held q) (ask ∷ held p) (put-held ask p q h))

came-count : (ask : Ask) (p q : Pooled) → IsPermutation (held p) (ask ∷ held q) → length (held q) ≡ length (held p) - 1
came-count ask p q h = one-less (length (held q)) (length (held p)) (length_permutation (held p) (ask ∷ held q) h)

more-asked : (n m x y k : ℕ) → m ≡ n + 1 → x ≡ m + y → k ≡ suc y → x ≡ n + k
more-asked n m x y k e f g = omega (arith, e, f, g)

no-more : (p q : Pooled) → q ≡ p → length (held q) ≡ length (held p) + length {A = Ask} []
no-more p q e = let s : length (held q) ≡ length (held p) = ap (λ (x : Pooled). length (held x)) e in let z : length {A = Ask} [] ≡ 0 = refl in omega (arith, s, z)

pub puts-count : (asks : List Ask) (p q : Pooled) → PutsAll asks p q → length (held q) ≡ length (held p) + length asks
puts-count [] p q h = no-more p q h
puts-count (ask ∷ asks) p q h = more-asked (length (held p)) (length (held h.0)) (length (held q)) (length asks) (length (ask ∷ asks)) (put-count ask p h.0 h.1.puts) (puts-count asks h.0 q h.2) refl

-- ---- events

-- the same where more may wait
pub few-more : (n m waiting : ℕ) (events : List PoolEvent) → n ≤ m → WaitFew n waiting events → WaitFew m waiting events
few-more n m waiting [] l h = le_trans h l
few-more n m waiting (Asked ask ∷ events) l h = (le_trans h.0 l, few-more n m (waiting + 1) events l h.1)
few-more n m waiting (Came ask reply ∷ events) l h = (le_trans h.0 l, few-more n m (waiting - 1) events l h.1)
few-more n m waiting (Waited ∷ events) l h = few-more n m waiting events l h
few-more n m waiting (Broke fault ∷ events) l h = few-more n m waiting events l h

-- where no more are asked than may wait still
pub few-asked : (most waiting : ℕ) (events : List PoolEvent) → waiting + length (asked_in events) ≤ most → WaitFew most waiting events
few-asked most waiting [] h = let l : waiting + length {A = Ask} [] ≤ most = h in let few : waiting ≤ most = omega (arith, l) in few
few-asked most waiting (Asked ask ∷ events) h =
    let s : length (ask ∷ asked_in events) ≡ suc (length (asked_in events)) = refl in
    let l : waiting + length (ask ∷ asked_in events) ≤ most = h in
    (omega (arith, l, s), few-asked most (waiting + 1) events (omega (arith, l, s)))
few-asked most waiting (Came ask reply ∷ events) h = let l : waiting + length (asked_in events) ≤ most = h in (omega (arith, l), few-asked most (waiting - 1) events (omega (arith, l)))
few-asked most waiting (Waited ∷ events) h = few-asked most waiting events h
few-asked most waiting (Broke fault ∷ events) h = few-asked most waiting events h

-- of events in which nothing is asked
pub few-quiet : (most waiting : ℕ) (events : List PoolEvent) → waiting ≤ most → asked_in events ≡ [] → WaitFew most waiting events
few-quiet most waiting events l none = let z : length (asked_in events) ≡ length {A = Ask} [] = ap (λ (l : List Ask). length l) none in let y : length {A = Ask} [] ≡ 0 = refl in few-asked most waiting events (omega (arith, l, z, y))

-- of asks that were put, where those that are held at last are few
pub few-put : (most : ℕ) (asks : List Ask) (p q : Pooled) → PutsAll asks p q → length (held q) ≤ most → WaitFew most (length (held p)) (map Asked asks)
few-put most asks p q h l =
    let more = puts-count asks p q h in
    let same : length (asked_in (map Asked asks)) ≡ length asks = ap (λ (l : List Ask). length l) (asked-asks asks) in
    few-asked most (length (held p)) (map Asked asks) (omega (arith, l, more, same))

-- one after another
pub few-then : (allows : List ℕ → ℕ → List ℕ → List ℕ → Type 0) (most : ℕ) (first second : List PoolEvent) (p q : Pooled) (v w : WireState) → Travels allows first p q v w → q.fault ≡ None → WaitFew most (length (held p)) first → WaitFew most (length (held q)) second
    → WaitFew most (length (held p)) (first ++ second)
few-then allows most [] second p q v w t none f s = subst (λ (x : Pooled). WaitFew most (length (held x)) second) t.0 s
few-then allows most (Asked ask ∷ first) second p q v w t none f s =
    let e : length (held t.0.pool) ≡ length (held p) + 1 = put-count ask p t.0.pool t.1.happens.0 in
    (f.0, subst (λ (n : ℕ). WaitFew most n (first ++ second)) e (few-then allows most first second t.0.pool q t.0.wire w t.2 none (subst (λ (n : ℕ). WaitFew most n first) (sym e) f.1) s))
few-then allows most (Came ask reply ∷ first) second p q v w t none f s =
    let h : Comes ask reply p t.0.pool v t.0.wire = t.1.happens in
    let e : length (held t.0.pool) ≡ length (held p) - 1 = came-count ask p t.0.pool h.others in
    (f.0, subst (λ (n : ℕ). WaitFew most n (first ++ second)) e (few-then allows most first second t.0.pool q t.0.wire w t.2 none (subst (λ (n : ℕ). WaitFew most n first) (sym e) f.1) s))
few-then allows most (Waited ∷ first) second p q v w t none f s =
    let h : StepWaits p t.0.pool v t.0.wire = t.1.happens in
    let e : length (held t.0.pool) ≡ length (held p) = length_permutation (held p) (held t.0.pool) h.others in
    subst (λ (n : ℕ). WaitFew most n (first ++ second)) e (few-then allows most first second t.0.pool q t.0.wire w t.2 none (subst (λ (n : ℕ). WaitFew most n first) (sym e) f) s)
few-then allows most (Broke fault ∷ first) second p q v w t none f s = let h : StepBreaks fault p t.0.pool v t.0.wire = t.1.happens in absurd (no-break allows (kept_of fault) first t.0.pool q t.0.wire w h.kept t.2 none)
