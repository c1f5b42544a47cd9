-- Asks whose tickets differ.
use Rattle.std.proofs.Common.{ℕ, ◌≡◌, ◌≢◌, ◌≤◌, List, [], ◌∷◌, ◌++◌, map, refl, sym, ap, subst, ◌∙◌, append_assoc, arith, ⊎_elim}
use Rattle.std.specs.List.{AllByRecursion, Contains, sum_by}
use Rattle.std.specs.List.Sorted.{IsPermutation}
use Rattle.std.proofs.lemmas.Bool.{cases_eq}
use Rattle.std.proofs.lemmas.Bool.Decides.{nat_tests}
use Rattle.std.proofs.lemmas.List.{map-append}
use Rattle.std.proofs.lemmas.List.Sums.{sum_by-cons}
use Rattle.std.proofs.lemmas.List.Sorted.{sum_by-IsPermutation, IsPermutation-middle}
use Rattle.list_laws.proofs.Members.{head_or_tail, none_in}
use Rattle.request_pool.specs.Pools.{Pooled, Ask, ask_waiting, ask_flying, held, in_flight}
use Rattle.tpf_client.specs.Traffic.{is_under, AreDistinct, Puts}

pub under : (t : ℕ) (a : Ask) → a.ticket ≡ t → is_under t a ≡ 1
under t a e = grind (arith, nat_tests)

not-under : (t : ℕ) (a : Ask) → a.ticket ≢ t → is_under t a ≡ 0
not-under t a n = grind (arith, nat_tests)

at-most-one : (t : ℕ) (a : Ask) → is_under t a ≤ 1
at-most-one t a = grind (arith, nat_tests)

pub none-under : (t : ℕ) (asks : List Ask) → AllByRecursion (λ a. a.ticket ≢ t) asks → sum_by (is_under t) asks ≡ 0
none-under t [] h = refl
none-under t (a ∷ asks) h = let e = sum_by-cons (is_under t) a asks in let f = not-under t a h.0 in let g = none-under t asks h.1 in omega arith

pub none-distinct : AreDistinct []
none-distinct = record { once = λ t. omega arith }

pub fresh-distinct : (a : Ask) (asks : List Ask) → AllByRecursion (λ b. b.ticket ≢ a.ticket) asks → AreDistinct asks → AreDistinct (a ∷ asks)
fresh-distinct a asks fresh d = record {
  once = λ t.
      let e = sum_by-cons (is_under t) a asks in
      ⊎_elim (λ (s : a.ticket ≡ t). let z : sum_by (is_under t) asks ≡ 0 = subst (λ (n : ℕ). sum_by (is_under n) asks ≡ 0) s (none-under a.ticket asks fresh) in let one = at-most-one t a in omega arith)
      (λ (n : a.ticket ≢ t). let z = not-under t a n in let l = d.once t in omega arith) (cases_eq a.ticket t);
}

pub distinct-permuted : (xs ys : List Ask) → IsPermutation xs ys → AreDistinct xs → AreDistinct ys
distinct-permuted xs ys p d = record { once = λ t. subst (λ (n : ℕ). n ≤ 1) (sym (sum_by-IsPermutation (is_under t) xs ys p)) (d.once t) }

pub all-apart : (t : ℕ) (asks : List Ask) → sum_by (is_under t) asks ≡ 0 → AllByRecursion (λ b. b.ticket ≢ t) asks
all-apart t [] e = tt
all-apart t (b ∷ asks) e =
    let c = sum_by-cons (is_under t) b asks in
    ((λ s. let u = under t b s in omega arith), all-apart t asks (omega arith))

pub others-differ : (a : Ask) (asks : List Ask) → AreDistinct (a ∷ asks) → AllByRecursion (λ b. b.ticket ≢ a.ticket) asks
others-differ a asks d =
    let c = sum_by-cons (is_under a.ticket) a asks in
    let u = under a.ticket a refl in
    let l = d.once a.ticket in
    all-apart a.ticket asks (omega arith)

pub rest-distinct : (a : Ask) (asks : List Ask) → AreDistinct (a ∷ asks) → AreDistinct asks
rest-distinct a asks d = record { once = λ t. let c = sum_by-cons (is_under t) a asks in let l = d.once t in omega arith }

pub apart-from : (t : ℕ) (asks : List Ask) (b : Ask) → AllByRecursion (λ c. c.ticket ≢ t) asks → Contains asks b → b.ticket ≢ t
apart-from t [] b h c = absurd (none_in b c)
apart-from t (x ∷ asks) b h c = ⊎_elim (λ (e : x ≡ b). subst (λ (y : Ask). y.ticket ≢ t) e h.0) (λ (m : Contains asks b). apart-from t asks b h.1 m) (head_or_tail x b asks c)

-- of asks whose tickets differ, those under one ticket are one
pub one-ask : (asks : List Ask) (a b : Ask) → AreDistinct asks → Contains asks a → Contains asks b → a.ticket ≡ b.ticket → a ≡ b
one-ask [] a b d p q e = absurd (none_in a p)
one-ask (x ∷ asks) a b d p q e =
    ⊎_elim (λ (s : x ≡ a). ⊎_elim (λ (t : x ≡ b). sym s ∙ t)
    (λ (m : Contains asks b). absurd (apart-from x.ticket asks b (others-differ x asks d) m (sym e ∙ ap (λ (y : Ask). y.ticket) (sym s)))) (head_or_tail x b asks q))
    (λ (m : Contains asks a). ⊎_elim (λ (t : x ≡ b). absurd (apart-from x.ticket asks a (others-differ x asks d) m (e ∙ ap (λ (y : Ask). y.ticket) (sym t))))
    (λ (n : Contains asks b). one-ask asks a b (rest-distinct x asks d) m n e) (head_or_tail x b asks q)) (head_or_tail x a asks p)

middle : (xs : List Ask) (x : Ask) (ys : List Ask) → (xs ++ x ∷ []) ++ ys ≡ xs ++ x ∷ ys
middle xs x ys = append_assoc xs (x ∷ []) ys

-- an ask that was put is held with the others
pub put-held : (ask : Ask) (old new : Pooled) → Puts ask old new → IsPermutation (held new) (ask ∷ held old)
put-held ask old new p =
    let flying = map ask_flying (in_flight old) in
    let e : held new ≡ map ask_waiting old.waiting ++ ask ∷ flying = ap held p.put ∙ (ap (λ (l : List Ask). l ++ flying) (map-append ask_waiting old.waiting ((record { ticket = ask.ticket; address = ask.address; failed = 0 }) ∷ [])) ∙ middle (map ask_waiting old.waiting) ask flying) in
    subst (λ (l : List Ask). IsPermutation l (ask ∷ held old)) (sym e) (IsPermutation-middle (map ask_waiting old.waiting) ask flying)
