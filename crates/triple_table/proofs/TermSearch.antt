-- A step of the search for a term, and what it finds.
use Rattle.std.proofs.Common.{ℕ, ◌≡◌, ◌+◌, ◌-◌, ◌/◌, ◌<◌, ◌≤◌, Bool, true, false, List, refl, sym, ◌∙◌, length, get_or, arith, ltb}
use Rattle.std.specs.List.{Contains}
use Rattle.std.specs.List.Sorted.{IsStrictlySortedBy}
use Rattle.std.specs.declared.cmp.Ordering.TheVariants.{Less, Equal, Greater}
use Rattle.list_laws.proofs.Ascending.{greater_not_equal, less_not_equal}
use Rattle.rdf_terms.specs.declared.term.Term.{Term}
use Rattle.rdf_terms.specs.Order.{term_order}
use Rattle.rdf_terms.specs.OrderLaws.{term_total, term_equal}
use Rattle.triple_table.proofs.Narrowing.{Narrowed, narrow_up, narrow_down}
use Rattle.triple_table.proofs.RowOrder.{still_less, still_greater}

module _ (xs : List Term) (s : IsStrictlySortedBy term_order xs) (term : Term) where
  pub term_up : (low high start n now middle : ℕ) → now ≡ n + 1 → middle ≡ low + (high - low) / 2 → low < high →
      Narrowed (λ (t : Term). term_order t term ≡ Less) (λ (t : Term). term_order t term ≡ Greater) xs low high start n →
      ((d : Term) → Less ≡ term_order (get_or xs middle d) term) → Narrowed (λ (t : Term). term_order t term ≡ Less) (λ (t : Term). term_order t term ≡ Greater) xs (middle + 1) high start now
  term_up low high start n now middle cost m l h value =
      let within = h.within in
      let inside : middle < length xs = omega (arith, m, l, within) in
      rw cost (narrow_up _ _ xs low high start n middle h l m (λ k d i. still_less term_total xs s term k middle d i inside (sym (value d))))

  pub term_down : (low high start n now middle : ℕ) → now ≡ n + 1 → middle ≡ low + (high - low) / 2 → low < high →
      Narrowed (λ (t : Term). term_order t term ≡ Less) (λ (t : Term). term_order t term ≡ Greater) xs low high start n →
      ((d : Term) → Greater ≡ term_order (get_or xs middle d) term) → Narrowed (λ (t : Term). term_order t term ≡ Less) (λ (t : Term). term_order t term ≡ Greater) xs low middle start now
  term_down low high start n now middle cost m l h value =
      rw cost (narrow_down _ _ xs low high start n middle h l m (λ k d i j. still_greater term_total xs s term middle k d i j (sym (value d))))

  pub term_there : (low high start n middle : ℕ) → middle ≡ low + (high - low) / 2 → low < high →
      Narrowed (λ (t : Term). term_order t term ≡ Less) (λ (t : Term). term_order t term ≡ Greater) xs low high start n →
      ((d : Term) → Equal ≡ term_order (get_or xs middle d) term) → (middle < length xs) × ((d : Term) → get_or xs middle d ≡ term)
  term_there low high start n middle m l h value =
      let within = h.within in (omega (arith, m, l, within), λ d. (term_equal (get_or xs middle d) term).0 (sym (value d)))

  pub term_absent : (low high start n : ℕ) → high ≤ low →
      Narrowed (λ (t : Term). term_order t term ≡ Less) (λ (t : Term). term_order t term ≡ Greater) xs low high start n → Contains xs term → ⊥
  term_absent low high start n past h held = by (ltb held.0 low) refl
    where
      same : term_order (get_or xs held.0 term) term ≡ Equal
      same = (term_equal (get_or xs held.0 term) term).1 held.2

      by : (b : Bool) → ltb held.0 low ≡ b → ⊥
      by true t = less_not_equal (sym (h.below held.0 term (grind (arith, t))) ∙ same)
      by false t = let place : high ≤ held.0 = grind (arith, t, past) in greater_not_equal (sym (h.above held.0 term place held.1) ∙ same)
