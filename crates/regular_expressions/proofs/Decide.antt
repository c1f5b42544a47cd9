-- Which texts match an expression, and which begin one that does, is decided.
use Rattle.std.proofs.Common.{ℕ, zero, suc, ◌≡◌, ◌≤◌, ◌<◌, ◌⊎◌, inl, inr, Bool, true, false, List, [], ◌∷◌, ◌++◌, refl, subst, arith}
use Rattle.std.proofs.lemmas.Bool.{cases_lt}
use Rattle.regular_expressions.specs.Regular.{Regular, nothing, nil, one_of, seq, alt, many, Matches, Begins, nullable, lefts}
use Rattle.regular_expressions.proofs.Left.{alive-some, lefts-matches, matches-lefts, ends-matches, matches-ends}

pub decide_matches : (r : Regular) (w : List ℕ) → Matches r w ⊎ (Matches r w → ⊥)
decide_matches r w = pick (nullable (lefts r w)) refl
  where
    differ : nullable (lefts r w) ≡ false → nullable (lefts r w) ≡ true → ⊥
    differ a b = cc

    pick : (b : Bool) → nullable (lefts r w) ≡ b → Matches r w ⊎ (Matches r w → ⊥)
    pick true e = inl (ends-matches r (lefts r w) w refl e)
    pick false e = inr (λ m. differ e (matches-ends r (lefts r w) w refl m))

-- some text matches, or none does
abbrev HasText : Regular → Type 0
HasText r = ((w : List ℕ) × Matches r w) ⊎ ((w : List ℕ) → Matches r w → ⊥)

text_of_both : (r s : Regular) → HasText r → HasText s → HasText (seq r s)
text_of_both r s (inl a) (inl b) = inl (a.0 ++ b.0, (a.0, b.0, a.1, b.1, refl))
text_of_both r s (inl a) (inr none) = inr (λ w m. none m.1 m.3)
text_of_both r s (inr none) b = inr (λ w m. none m.0 m.2)

text_of_either : (r s : Regular) → HasText r → HasText s → HasText (alt r s)
text_of_either r s (inl a) b = inl (a.0, inl a.1)
text_of_either r s (inr none) (inl b) = inl (b.0, inr b.1)
text_of_either r s (inr none) (inr nor) = inr (λ w m. neither w m)
  where
    neither : (w : List ℕ) → Matches r w ⊎ Matches s w → ⊥
    neither w (inl m) = none w m
    neither w (inr m) = nor w m

has_text : (r : Regular) → HasText r
has_text nothing = inr (λ w m. m)
has_text nil = inl ([], refl)
has_text (one_of []) = inr (λ w m. differ m.1)
  where
    differ : false ≡ true → ⊥
    differ e = cc
has_text (one_of (k ∷ ks)) = inl (alive-some (one_of (k ∷ ks)) refl)
has_text (seq r s) = text_of_both r s (has_text r) (has_text s)
has_text (alt r s) = text_of_either r s (has_text r) (has_text s)
has_text (many r) = inl ([], ([], tt, refl))

pub decide_begins : (r : Regular) (w : List ℕ) → Begins r w ⊎ (Begins r w → ⊥)
decide_begins r w = pick (has_text (lefts r w))
  where
    pick : HasText (lefts r w) → Begins r w ⊎ (Begins r w → ⊥)
    pick (inl t) = inl (t.0, lefts-matches r w t.0 t.1)
    pick (inr none) = inr (λ b. none b.0 (matches-lefts r w b.0 b.1))

-- m is the greatest number up to n of which P holds
pub record IsGreatest (P : ℕ → Type 0) (n m : ℕ) : Type 0 where
  pub within : m ≤ n
  pub is : P m
  pub greatest : (i : ℕ) → i ≤ n → P i → i ≤ m

-- of the numbers up to n there is a greatest of which P holds, or there is none: so each text has a longest front that is as is wanted, or none
pub greatest_or_none : (P : ℕ → Type 0) → ((m : ℕ) → P m ⊎ (P m → ⊥)) → (n : ℕ) → ((m : ℕ) × IsGreatest P n m) ⊎ ((i : ℕ) → i ≤ n → P i → ⊥)
greatest_or_none P decide zero = pick (decide 0)
  where
    none_at : (P 0 → ⊥) → (i : ℕ) → i ≤ 0 → P i → ⊥
    none_at not_here i h p = let e : i ≡ 0 = omega arith in not_here (subst P e p)

    pick : P 0 ⊎ (P 0 → ⊥) → ((m : ℕ) × IsGreatest P 0 m) ⊎ ((i : ℕ) → i ≤ 0 → P i → ⊥)
    pick (inl p) = inl (0, record { within = omega arith; is = p; greatest = λ i h q. h })
    pick (inr not_here) = inr (none_at not_here)
greatest_or_none P decide (suc n) = pick (decide (suc n)) (greatest_or_none P decide n)
  where
    before : (P (suc n) → ⊥) → (i : ℕ) → i ≤ suc n → P i → i ≤ n
    before not_here i h p = last (cases_lt n i)
      where
        last : (n < i) ⊎ (i ≤ n) → i ≤ n
        last (inl l) = let e : i ≡ suc n = omega arith in absurd (not_here (subst P e p))
        last (inr l) = l

    pick : P (suc n) ⊎ (P (suc n) → ⊥) → ((m : ℕ) × IsGreatest P n m) ⊎ ((i : ℕ) → i ≤ n → P i → ⊥) → ((m : ℕ) × IsGreatest P (suc n) m) ⊎ ((i : ℕ) → i ≤ suc n → P i → ⊥)
    pick (inl p) g = inl (suc n, record { within = omega arith; is = p; greatest = λ i h q. h })
    pick (inr not_here) (inl g) = inl (g.0, record { within = let w = g.1.within in omega arith; is = g.1.is; greatest = λ i h q. g.1.greatest i (before not_here i h q) q })
    pick (inr not_here) (inr none) = inr (λ i h q. none i (before not_here i h q) q)
