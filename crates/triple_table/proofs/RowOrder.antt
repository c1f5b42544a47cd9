-- The order of rows is total, and what it says of a bound.
use Rattle.std.proofs.Common.{ℕ, ◌≡◌, ◌+◌, ◌-◌, ◌/◌, ◌<◌, ◌≤◌, Bool, true, false, List, refl, sym, ap, subst, ◌∙◌, length, get_or, arith, ltb, inl, inr, ⊎_elim}
use Rattle.std.specs.Prelude.{◌⊎◌}
use Rattle.std.proofs.lemmas.Bool.{true≢false}
use Rattle.std.specs.List.Sorted.{IsStrictlySortedBy}
use Rattle.std.specs.declared.cmp.Ordering.{Ordering}
use Rattle.std.specs.declared.cmp.Ordering.TheVariants.{Less, Equal, Greater}
use Rattle.std.specs.Ordering.{ordering_reverse}
use Rattle.std.specs.Cmp.{IsTotalOrder}
use Rattle.std.proofs.lemmas.Cmp.{nat_cmp_total, on_total, then_total, alike_right}
use Rattle.list_laws.proofs.Ascending.{pair_less}
use Rattle.triple_table.specs.declared.ids.Row.{Row}
use Rattle.triple_table.specs.Rows.{row_order, goes_before}
use Rattle.triple_table.proofs.Narrowing.{Narrowed, narrow_up, narrow_down}

pub row_total : IsTotalOrder row_order
row_total = then_total (on_total (λ (r : Row). r.first) nat_cmp_total) (then_total (on_total (λ (r : Row). r.second) nat_cmp_total) (on_total (λ (r : Row). r.third) nat_cmp_total))

-- ---- what holds of an element holds of those on its side

module _ {K : Type 0} {R : K → K → Ordering} (o : IsTotalOrder R) (xs : List K) (s : IsStrictlySortedBy R xs) (bound : K) where
  pub still_less : (i j : ℕ) (d : K) → i ≤ j → j < length xs → R (get_or xs j d) bound ≡ Less → R (get_or xs i d) bound ≡ Less
  still_less i j d l m h = by (ltb i j) refl
    where
      by : (b : Bool) → ltb i j ≡ b → R (get_or xs i d) bound ≡ Less
      by true t = o.trans (get_or xs i d) (get_or xs j d) bound (pair_less R xs s i j d d (grind (arith, t)) m) h
      by false t = let same : j ≡ i = grind (arith, t, l) in subst (λ k. R (get_or xs k d) bound ≡ Less) same h

  pub less_below_equal : (i j : ℕ) (d : K) → i < j → j < length xs → R (get_or xs j d) bound ≡ Equal → R (get_or xs i d) bound ≡ Less
  less_below_equal i j d l m h = sym (alike_right o (get_or xs j d) bound (get_or xs i d) h) ∙ pair_less R xs s i j d d l m

  turned : (x y : K) (p q : Ordering) → q ≡ ordering_reverse p → R x y ≡ p → R y x ≡ q
  turned x y p q e h = o.antisymm y x ∙ ap ordering_reverse h ∙ sym e

  pub still_greater : (i j : ℕ) (d : K) → i ≤ j → j < length xs → R (get_or xs i d) bound ≡ Greater → R (get_or xs j d) bound ≡ Greater
  still_greater i j d l m h = by (ltb i j) refl
    where
      by : (b : Bool) → ltb i j ≡ b → R (get_or xs j d) bound ≡ Greater
      by true t = turned bound (get_or xs j d) Less Greater refl (o.trans bound (get_or xs i d) (get_or xs j d) (turned (get_or xs i d) bound Greater Less refl h) (pair_less R xs s i j d d (grind (arith, t)) m))
      by false t = let same : i ≡ j = grind (arith, t, l) in subst (λ k. R (get_or xs k d) bound ≡ Greater) same h

-- ---- before a bound

before_by : (with_equal : Bool) (p q : Ordering) → goes_before with_equal p ≡ true → (p ≡ Less → q ≡ Less) → (p ≡ Equal → (q ≡ Less) ⊎ (q ≡ Equal)) → goes_before with_equal q ≡ true
before_by w Less q h f g = ap (goes_before w) (f refl)
before_by w Equal q h f g = ⊎_elim (λ e. ap (goes_before w) e) (λ e. ap (goes_before w) e ∙ h) (g refl)
before_by w Greater q h f g = cc

module _ (xs : List Row) (s : IsStrictlySortedBy row_order xs) (bound : Row) (w : Bool) where
  pub still_before : (i j : ℕ) (d : Row) → i ≤ j → j < length xs → goes_before w (row_order (get_or xs j d) bound) ≡ true → goes_before w (row_order (get_or xs i d) bound) ≡ true
  still_before i j d l m h = before_by w _ _ h (still_less row_total xs s bound i j d l m) (by (ltb i j) refl)
    where
      by : (b : Bool) → ltb i j ≡ b → row_order (get_or xs j d) bound ≡ Equal → (row_order (get_or xs i d) bound ≡ Less) ⊎ (row_order (get_or xs i d) bound ≡ Equal)
      by true t e = inl (less_below_equal row_total xs s bound i j d (grind (arith, t)) m e)
      by false t e = let same : j ≡ i = grind (arith, t, l) in inr (subst (λ k. row_order (get_or xs k d) bound ≡ Equal) same e)

  split : (b : Bool) → (b ≡ true) ⊎ (b ≡ false)
  split true = inl refl
  split false = inr refl

  pub still_behind : (i j : ℕ) (d : Row) → i ≤ j → j < length xs → goes_before w (row_order (get_or xs i d) bound) ≡ false → goes_before w (row_order (get_or xs j d) bound) ≡ false
  still_behind i j d l m h = ⊎_elim (λ t. absurd (true≢false (sym (still_before i j d l m t) ∙ h))) (λ f. f) (split (goes_before w (row_order (get_or xs j d) bound)))

  -- ---- a step of the search

  pub row_up : (low high start n now middle : ℕ) (answer : Bool) (o : Ordering) → now ≡ n + 1 → middle ≡ low + (high - low) / 2 → low < high →
      Narrowed (λ (r : Row). goes_before w (row_order r bound) ≡ true) (λ (r : Row). goes_before w (row_order r bound) ≡ false) xs low high start n →
      ((d : Row) → o ≡ row_order (get_or xs middle d) bound) → answer ≡ goes_before w o → answer ≡ true →
      Narrowed (λ (r : Row). goes_before w (row_order r bound) ≡ true) (λ (r : Row). goes_before w (row_order r bound) ≡ false) xs (middle + 1) high start now
  row_up low high start n now middle answer o cost m l h value is holds =
      let within = h.within in
      let inside : middle < length xs = omega (arith, m, l, within) in
      rw cost (narrow_up _ _ xs low high start n middle h l m (λ k d i. still_before k middle d i inside (sym (is ∙ ap (goes_before w) (value d)) ∙ holds)))

  pub row_down : (low high start n now middle : ℕ) (answer : Bool) (o : Ordering) → now ≡ n + 1 → middle ≡ low + (high - low) / 2 → low < high →
      Narrowed (λ (r : Row). goes_before w (row_order r bound) ≡ true) (λ (r : Row). goes_before w (row_order r bound) ≡ false) xs low high start n →
      ((d : Row) → o ≡ row_order (get_or xs middle d) bound) → answer ≡ goes_before w o → answer ≡ false →
      Narrowed (λ (r : Row). goes_before w (row_order r bound) ≡ true) (λ (r : Row). goes_before w (row_order r bound) ≡ false) xs low middle start now
  row_down low high start n now middle answer o cost m l h value is fails =
      rw cost (narrow_down _ _ xs low high start n middle h l m (λ k d i j. still_behind middle k d i j (sym (is ∙ ap (goes_before w) (value d)) ∙ fails)))
