-- How often a link is held, after calls on one link.
use Rattle.std.proofs.Common.{ℕ, ◌≡◌, ◌≢◌, ◌+◌, ◌<◌, ◌≤◌, ◌==◌, ◌⊎◌, inl, inr, ◌++◌, List, [], ◌∷◌, Option, Some, None, Bool, true, false, refl, sym, ◌∙◌, ap, subst, arith, if◌then◌else◌}
use Rattle.std.proofs.lemmas.Bool.{cases_eq}
use Rattle.std.proofs.lemmas.Bool.Decides.{eqb_tells}
use Rattle.tpf_base.specs.Addresses.{Address}
use Rattle.tpf_base.specs.Links.{Link, WireState, OpensGiven}
use Rattle.tpf_base.specs.Calls.{Closes}
use Rattle.exchange.specs.Exchanges.{IsLinked}
use Rattle.exchange.specs.Polls.{LinkAfter}
use Rattle.request_pool.specs.declared.asks.Flight.{Flight}
use Rattle.request_pool.specs.declared.asks.Spare.{Spare}
use Rattle.request_pool.specs.Owned.{on_link, flights_on, spare_on, times_open, open_on}

test_same : (b : Bool) (i k : ℕ) → ((b ≡ true) × (i ≡ k)) ⊎ ((b ≡ false) × (i ≢ k)) → i ≡ k → ◌≡◌ {A = ℕ} (if b then 1 else 0) 1
test_same true i k h e = refl
test_same false i k (inl h) e = cc
test_same false i k (inr h) e = absurd (h.1 e)

test_other : (b : Bool) (i k : ℕ) → ((b ≡ true) × (i ≡ k)) ⊎ ((b ≡ false) × (i ≢ k)) → i ≢ k → ◌≡◌ {A = ℕ} (if b then 1 else 0) 0
test_other false i k h e = refl
test_other true i k (inl h) e = absurd (e h.1)
test_other true i k (inr h) e = cc

pub on_same : (i k : ℕ) → i ≡ k → on_link (Some i) k ≡ 1
on_same i k e = test_same (i == k) i k (eqb_tells i k) e

pub on_other : (i k : ℕ) → i ≢ k → on_link (Some i) k ≡ 0
on_other i k e = test_other (i == k) i k (eqb_tells i k) e

pub flights_on-append : (xs ys : List Flight) (k : ℕ) → flights_on (xs ++ ys) k ≡ flights_on xs k + flights_on ys k
flights_on-append [] ys k = omega arith
flights_on-append (x ∷ xs) ys k = omega (arith, flights_on-append xs ys k)

pub spare_on-append : (xs ys : List Spare) (k : ℕ) → spare_on (xs ++ ys) k ≡ spare_on xs k + spare_on ys k
spare_on-append [] ys k = omega arith
spare_on-append (x ∷ xs) ys k = omega (arith, spare_on-append xs ys k)

bool_one : (b : Bool) → times_open b ≤ 1
bool_one true = omega arith
bool_one false = omega arith

pub one_at_most : (wire : WireState) (k : ℕ) → open_on wire k ≤ 1
one_at_most wire k = bool_one (wire.links k).is_open

pub open_one : (b : Bool) → b ≡ true → times_open b ≡ 1
open_one true e = refl
open_one false e = cc

pub closed_none : (b : Bool) → b ≡ false → times_open b ≡ 0
closed_none false e = refl
closed_none true e = cc

positive_open : (b : Bool) → 0 < times_open b → b ≡ true
positive_open true h = refl
positive_open false h = absurd (omega (arith, h))

-- what is held is open
pub held_open : (wire : WireState) (k n : ℕ) → 0 < n → n ≤ open_on wire k → (wire.links k).is_open ≡ true
held_open wire k n p h = positive_open (wire.links k).is_open (omega (arith, p, h))

pub linked_open : (o : Option ℕ) (rest : ℕ → ℕ) (wire : WireState) → ((k : ℕ) → on_link o k + rest k ≤ open_on wire k) → IsLinked o wire
linked_open None rest wire h = tt
linked_open (Some k) rest wire h = held_open wire k (on_link (Some k) k + rest k) (omega (arith, on_same k k refl)) (h k)

pub same_open : (a b : WireState) (k : ℕ) → b.links k ≡ a.links k → open_on b k ≡ open_on a k
same_open a b k e = ap (λ (x : Link). times_open x.is_open) e

-- ---- after a poll

-- other exchanges hold another link
pub rest_none : (address : Address) (o p : Option ℕ) (a b : WireState) → LinkAfter address o p a b → OpensGiven a → (rest : ℕ → ℕ) → ((k : ℕ) → on_link o k + rest k ≤ open_on a k)
    → (k : ℕ) → p ≡ Some k → rest k ≡ 0
rest_none address (Some j) (Some i) a b l g rest h k e =
    let same : i ≡ k = cc in
    let j_is : j ≡ k = sym l.0 ∙ same in
    omega (arith, h k, on_same j k j_is, one_at_most a k)
rest_none address (Some j) None a b l g rest h k e = absurd l
rest_none address None None a b l g rest h k e = cc
rest_none address None (Some i) a b l g rest h k e =
    let same : i ≡ k = cc in
    let at : a.given ≤ k = let q : a.given ≡ k = sym l.0 ∙ same in omega (arith, q) in
    omega (arith, h k, closed_none (a.links k).is_open (g k at))

some_off : (i k : ℕ) → i ≢ k → Some i ≢ Some k
some_off i k n = λ e. n (cc e)

-- the others' links are as open as they were
pub rest_after : (p : Option ℕ) (a b : WireState) → ((k : ℕ) → p ≢ Some k → b.links k ≡ a.links k) → (o : Option ℕ) (rest : ℕ → ℕ) → ((k : ℕ) → on_link o k + rest k ≤ open_on a k)
    → ((k : ℕ) → p ≡ Some k → rest k ≡ 0) → (k : ℕ) → rest k ≤ open_on b k
rest_after None a b same o rest h none k =
    omega (arith, h k, same_open a b k (same k (λ e. cc e)))
rest_after (Some i) a b same o rest h none k =
    elim (cases_eq i k) [ inl e ↦ omega (arith, none k (ap Some e)) | inr n ↦ omega (arith, h k, same_open a b k (same k (some_off i k n))) ]

-- and the exchange's own link may be held where it is open
pub own_after : (p : Option ℕ) (b : WireState) (rest : ℕ → ℕ) → ((k : ℕ) → rest k ≤ open_on b k) → ((k : ℕ) → p ≡ Some k → rest k ≡ 0) → IsLinked p b → (k : ℕ) → on_link p k + rest k ≤ open_on b k
own_after None b rest h none linked k = omega (arith, h k)
own_after (Some i) b rest h none linked k =
    elim (cases_eq i k) [ inl e ↦ omega (arith, on_same i k e, none k (ap Some e), ap times_open (subst (λ (x : ℕ). (b.links x).is_open ≡ true) e linked)) | inr n ↦ omega (arith, h k, on_other i k n) ]

-- a link that no other holds is closed
pub rest_closed : (i : ℕ) (a b : WireState) → Closes i a b → (rest : ℕ → ℕ) → ((k : ℕ) → rest k ≤ open_on a k) → rest i ≡ 0 → (k : ℕ) → rest k ≤ open_on b k
rest_closed i a b c rest h none k =
    elim (cases_eq i k) [ inl e ↦ (let z : rest k ≡ 0 = subst (λ (x : ℕ). rest x ≡ 0) e none in omega (arith, z)) | inr n ↦ omega (arith, h k, same_open a b k (c.only.others k (λ e. n (sym e)))) ]
