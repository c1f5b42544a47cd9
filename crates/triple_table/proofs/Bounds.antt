-- A row lies between the bounds of a pattern exactly where the pattern matches it.
use Rattle.std.proofs.Common.{ℕ, ◌≡◌, ◌+◌, ◌*◌, ◌<◌, ◌≤◌, Bool, true, false, eqb, ltb, refl, sym, ap, ◌∙◌, arith, inl, inr, ⊎_elim}
use Rattle.std.specs.Prelude.{◌⊎◌}
use Rattle.std.specs.declared.cmp.Ordering.TheVariants.{Equal}
use Rattle.std.specs.Ordering.{nat_cmp}
use Rattle.std.proofs.lemmas.Bool.{true≢false}
use Rattle.list_laws.proofs.Tests.{is_less, is_greater}
use Rattle.triple_table.specs.declared.ids.Row.{Row}
use Rattle.triple_table.specs.Rows.{key, row_order, goes_before}

-- ---- numbers compared

pub cmp_equal : (x y : ℕ) → x ≡ y → nat_cmp x y ≡ Equal
cmp_equal x y e = let t : ltb x y ≡ false = grind (arith, e) in let u : eqb x y ≡ true = grind (arith, e) in rw (t, u) refl

pub three_ways : (x y : ℕ) → (x < y) ⊎ ((x ≡ y) ⊎ (y < x))
three_ways x y = by (ltb x y) (ltb y x) refl refl
  where
    by : (p q : Bool) → ltb x y ≡ p → ltb y x ≡ q → (x < y) ⊎ ((x ≡ y) ⊎ (y < x))
    by true q e f = inl (grind (arith, e))
    by false true e f = inr (inr (grind (arith, f)))
    by false false e f = inr (inl (grind (arith, e, f)))

-- ---- a row as one number

pub record IsSmall (r : Row) : Type 0 where
  pub first : r.first < 4294967296
  pub second : r.second < 4294967296
  pub third : r.third < 4294967296

pub key_cmp : (a b : Row) → IsSmall a → IsSmall b → row_order a b ≡ nat_cmp (key a) (key b)
unfolding key
key_cmp a b s t =
    let sa = s.first in let sb = s.second in let sc = s.third in let ta = t.first in let tb = t.second in let tc = t.third in
    ⊎_elim (λ l. rw (is_less a.first b.first l) (sym (is_less (key a) (key b) (omega (arith, l)))))
    (⊎_elim (λ e. rw (cmp_equal a.first b.first e)
    (⊎_elim (λ l. rw (is_less a.second b.second l) (sym (is_less (key a) (key b) (omega (arith, e, l)))))
    (⊎_elim (λ f. rw (cmp_equal a.second b.second f)
    (⊎_elim (λ l. rw (is_less a.third b.third l) (sym (is_less (key a) (key b) (omega (arith, e, f, l)))))
    (⊎_elim (λ g. rw (cmp_equal a.third b.third g) (sym (cmp_equal (key a) (key b) (omega (arith, e, f, g)))))
    (λ l. rw (is_greater a.third b.third l) (sym (is_greater (key a) (key b) (omega (arith, e, f, l)))))) (three_ways a.third b.third)))
    (λ l. rw (is_greater a.second b.second l) (sym (is_greater (key a) (key b) (omega (arith, e, l)))))) (three_ways a.second b.second)))
    (λ l. rw (is_greater a.first b.first l) (sym (is_greater (key a) (key b) (omega (arith, l)))))) (three_ways a.first b.first)

-- ---- before a bound

by_key : (w : Bool) (a b : Row) → IsSmall a → IsSmall b → goes_before w (row_order a b) ≡ goes_before w (nat_cmp (key a) (key b))
by_key w a b s t = ap (goes_before w) (key_cmp a b s t)

pub not_before : (a b : Row) → IsSmall a → IsSmall b → goes_before false (row_order a b) ≡ false → key b ≤ key a
not_before a b s t h = ⊎_elim (λ l. absurd (true≢false (sym (by_key false a b s t ∙ ap (goes_before false) (is_less _ _ l)) ∙ h))) (λ r. ⊎_elim (λ e. omega (arith, e)) (λ l. omega (arith, l)) r) (three_ways (key a) (key b))

pub is_not_before : (a b : Row) → IsSmall a → IsSmall b → key b ≤ key a → goes_before false (row_order a b) ≡ false
is_not_before a b s t h =
    by_key false a b s t ∙ ⊎_elim (λ l. absurd (omega (arith, l, h))) (λ r. ⊎_elim (λ e. ap (goes_before false) (cmp_equal _ _ e)) (λ l. ap (goes_before false) (is_greater _ _ l)) r) (three_ways (key a) (key b))

pub up_to : (a b : Row) → IsSmall a → IsSmall b → goes_before true (row_order a b) ≡ true → key a ≤ key b
up_to a b s t h = ⊎_elim (λ l. omega (arith, l)) (λ r. ⊎_elim (λ e. omega (arith, e)) (λ l. absurd (true≢false (sym h ∙ by_key true a b s t ∙ ap (goes_before true) (is_greater _ _ l)))) r) (three_ways (key a) (key b))

pub is_up_to : (a b : Row) → IsSmall a → IsSmall b → key a ≤ key b → goes_before true (row_order a b) ≡ true
is_up_to a b s t h =
    by_key true a b s t ∙ ⊎_elim (λ l. ap (goes_before true) (is_less _ _ l)) (λ r. ⊎_elim (λ e. ap (goes_before true) (cmp_equal _ _ e)) (λ l. absurd (omega (arith, l, h))) r) (three_ways (key a) (key b))

-- ---- the fronts of a row

pub one_is : (s a b c : ℕ) → b < 4294967296 → c < 4294967296 → s * 18446744073709551616 + 0 * 4294967296 + 0 ≤ a * 18446744073709551616 + b * 4294967296 + c →
    a * 18446744073709551616 + b * 4294967296 + c ≤ s * 18446744073709551616 + 4294967295 * 4294967296 + 4294967295 → s ≡ a
one_is s a b c k l h m = omega (arith, k, l, h, m)

pub two_are : (s p a b c : ℕ) → p < 4294967296 → b < 4294967296 → c < 4294967296 → s * 18446744073709551616 + p * 4294967296 + 0 ≤ a * 18446744073709551616 + b * 4294967296 + c →
    a * 18446744073709551616 + b * 4294967296 + c ≤ s * 18446744073709551616 + p * 4294967296 + 4294967295 → (s ≡ a) × (p ≡ b)
two_are s p a b c i k l h m = let first : s ≡ a = omega (arith, i, k, l, h, m) in (first, omega (arith, i, k, l, h, m, first))

pub three_are : (s p o a b c : ℕ) → p < 4294967296 → o < 4294967296 → b < 4294967296 → c < 4294967296 → s * 18446744073709551616 + p * 4294967296 + o ≤ a * 18446744073709551616 + b * 4294967296 + c →
    a * 18446744073709551616 + b * 4294967296 + c ≤ s * 18446744073709551616 + p * 4294967296 + o → (s ≡ a) × (p ≡ b) × (o ≡ c)
three_are s p o a b c i j k l h m =
    let first : s ≡ a = omega (arith, i, j, k, l, h, m) in let second : p ≡ b = omega (arith, i, j, k, l, h, m, first) in (first, second, omega (arith, h, m, first, second))
