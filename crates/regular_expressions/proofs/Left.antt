-- What is left of a regular expression after a number matches what follows that number, and nothing else does.
use Rattle.std.proofs.Common.{ℕ, ◌≡◌, ◌⊎◌, inl, inr, Bool, true, false, ◌||◌, nat_eq, List, [], ◌∷◌, ◌++◌, if◌then◌else◌, refl, sym, ap, subst, ◌∙◌, arith}
use Rattle.std.proofs.lemmas.Bool.{and_parts, or_cases, or_right}
use Rattle.regular_expressions.specs.Regular.{Regular, nothing, nil, one_of, is_among, seq, alt, many, joined, Each, Matches, nullable, seq_of, alt_of, left, lefts, is_alive, Begins}

pub nullable-matches : (r : Regular) → nullable r ≡ true → Matches r []
nullable-matches nothing e = cc
nullable-matches nil e = refl
nullable-matches (one_of ks) e = cc
nullable-matches (seq r s) e = let p = and_parts (nullable r) (nullable s) e in ([], [], nullable-matches r p.0, nullable-matches s p.1, refl)
nullable-matches (alt r s) e = pick (nullable-matches r) (nullable-matches s) (or_cases (nullable r) (nullable s) e)
  where
    pick : (nullable r ≡ true → Matches r []) → (nullable s ≡ true → Matches s []) → (nullable r ≡ true) ⊎ (nullable s ≡ true) → Matches r [] ⊎ Matches s []
    pick f g (inl e) = inl (f e)
    pick f g (inr e) = inr (g e)
nullable-matches (many r) e = ([], tt, refl)

front_empty : (u v : List ℕ) → [] ≡ u ++ v → (u ≡ []) × (v ≡ [])
front_empty [] v e = (refl, sym e)
front_empty (b ∷ u) v e = cc

pub matches-nullable : (r : Regular) → Matches r [] → nullable r ≡ true
matches-nullable nothing m = absurd m
matches-nullable nil m = refl
matches-nullable (one_of ks) m = absurd (empty m.0 m.2)
  where
    empty : (k : ℕ) → [] ≡ k ∷ [] → ⊥
    empty k e = cc
matches-nullable (seq r s) m =
    let e = front_empty m.0 m.1 m.4 in
    let a : nullable r ≡ true = matches-nullable r (subst (λ (w : List ℕ). Matches r w) e.0 m.2) in
    let b : nullable s ≡ true = matches-nullable s (subst (λ (w : List ℕ). Matches s w) e.1 m.3) in
    rw a b
matches-nullable (alt r s) (inl m) = rw (matches-nullable r m) refl
matches-nullable (alt r s) (inr m) = or_right (nullable r) (nullable s) (matches-nullable s m)
matches-nullable (many r) m = refl

-- ---- the two builders mean what they build

pub seq_of-seq : (r s : Regular) (w : List ℕ) → Matches (seq_of r s) w → Matches (seq r s) w
seq_of-seq nothing s w m = absurd m
seq_of-seq nil s w m = ([], w, refl, m, refl)
seq_of-seq (one_of ks) s w m = m
seq_of-seq (seq a b) s w m = m
seq_of-seq (alt a b) s w m = m
seq_of-seq (many a) s w m = m

pub seq-seq_of : (r s : Regular) (w : List ℕ) → Matches (seq r s) w → Matches (seq_of r s) w
seq-seq_of nothing s w m = m.2
seq-seq_of nil s w m =
    let e : m.1 ≡ w = sym (m.4 ∙ ap (λ (l : List ℕ). l ++ m.1) m.2) in
    subst (λ (l : List ℕ). Matches s l) e m.3
seq-seq_of (one_of ks) s w m = m
seq-seq_of (seq a b) s w m = m
seq-seq_of (alt a b) s w m = m
seq-seq_of (many a) s w m = m

pub alt_of-alt : (r s : Regular) (w : List ℕ) → Matches (alt_of r s) w → Matches r w ⊎ Matches s w
alt_of-alt nothing s w m = inr m
alt_of-alt nil nothing w m = inl m
alt_of-alt (one_of ks) nothing w m = inl m
alt_of-alt (seq a b) nothing w m = inl m
alt_of-alt (alt a b) nothing w m = inl m
alt_of-alt (many a) nothing w m = inl m
alt_of-alt _ _ w m = m

pub alt-alt_of : (r s : Regular) (w : List ℕ) → Matches r w ⊎ Matches s w → Matches (alt_of r s) w
alt-alt_of nothing s w (inl m) = absurd m
alt-alt_of nothing s w (inr m) = m
alt-alt_of nil nothing w (inl m) = m
alt-alt_of (one_of ks) nothing w (inl m) = m
alt-alt_of (seq a b) nothing w (inl m) = m
alt-alt_of (alt a b) nothing w (inl m) = m
alt-alt_of (many a) nothing w (inl m) = m
alt-alt_of nil nothing w (inr m) = absurd m
alt-alt_of (one_of ks) nothing w (inr m) = absurd m
alt-alt_of (seq a b) nothing w (inr m) = absurd m
alt-alt_of (alt a b) nothing w (inr m) = absurd m
alt-alt_of (many a) nothing w (inr m) = absurd m
alt-alt_of _ _ w m = m

-- ---- left, soundly

one_left : (js : List ℕ) (k : ℕ) (w : List ℕ) (t : Bool) → is_among js k ≡ t → Matches (if t then nil else nothing) w → Matches (one_of js) (k ∷ w)
one_left js k w true e m = (k, e, ap (λ (l : List ℕ). k ∷ l) m)
one_left js k w false e m = absurd m

abbrev More : Regular → ℕ → Type 0
More r k = (w : List ℕ) → Matches (left r k) w → Matches r (k ∷ w)

seq_left : (r s : Regular) (k : ℕ) (w : List ℕ) → More r k → Matches (seq_of (left r k) s) w → Matches (seq r s) (k ∷ w)
seq_left r s k w ih m =
    let n = seq_of-seq (left r k) s w m in
    (k ∷ n.0, n.1, ih n.0 n.2, n.3, ap (λ (l : List ℕ). k ∷ l) n.4)

seq_cases : (r s : Regular) (k : ℕ) (w : List ℕ) → More r k → More s k → nullable r ≡ true → Matches (seq_of (left r k) s) w ⊎ Matches (left s k) w → Matches (seq r s) (k ∷ w)
seq_cases r s k w f g e (inl m) = seq_left r s k w f m
seq_cases r s k w f g e (inr m) = ([], k ∷ w, nullable-matches r e, g w m, refl)

seq_more : (r s : Regular) (k : ℕ) (w : List ℕ) (t : Bool) → nullable r ≡ t → More r k → More s k → Matches (if t then alt_of (seq_of (left r k) s) (left s k) else seq_of (left r k) s) w → Matches (seq r s) (k ∷ w)
seq_more r s k w true e f g m = seq_cases r s k w f g e (alt_of-alt (seq_of (left r k) s) (left s k) w m)
seq_more r s k w false e f g m = seq_left r s k w f m

alt_more : (r s : Regular) (k : ℕ) (w : List ℕ) → More r k → More s k → Matches (left r k) w ⊎ Matches (left s k) w → Matches r (k ∷ w) ⊎ Matches s (k ∷ w)
alt_more r s k w f g (inl m) = inl (f w m)
alt_more r s k w f g (inr m) = inr (g w m)

many_more : (r : Regular) (k : ℕ) (w : List ℕ) → More r k → Matches (seq_of (left r k) (many r)) w → Matches (many r) (k ∷ w)
many_more r k w f m =
    let n = seq_of-seq (left r k) (many r) w m in
    ((k ∷ n.0) ∷ n.3.0, (f n.0 n.2, n.3.1), ap (λ (l : List ℕ). k ∷ l) (n.4 ∙ ap (λ (l : List ℕ). n.0 ++ l) n.3.2))

pub left-matches : (r : Regular) (k : ℕ) (w : List ℕ) → Matches (left r k) w → Matches r (k ∷ w)
left-matches nothing k w m = absurd m
left-matches nil k w m = absurd m
left-matches (one_of js) k w m = one_left js k w (is_among js k) refl m
left-matches (seq r s) k w m = seq_more r s k w (nullable r) refl (left-matches r k) (left-matches s k) m
left-matches (alt r s) k w m = alt_more r s k w (left-matches r k) (left-matches s k) (alt_of-alt (left r k) (left s k) w m)
left-matches (many r) k w m = many_more r k w (left-matches r k) m

-- ---- left, wholly

abbrev Less : Regular → ℕ → Type 0
Less r k = (w : List ℕ) → Matches r (k ∷ w) → Matches (left r k) w

one_less : (js : List ℕ) (k j : ℕ) (w : List ℕ) → is_among js j ≡ true → k ∷ w ≡ j ∷ [] → Matches (left (one_of js) k) w
one_less js k j w a e =
    let letter : j ≡ k = cc in
    let same : is_among js k ≡ true = subst (λ (i : ℕ). is_among js i ≡ true) letter a in
    let none : w ≡ [] = cc in
    rw same none

-- a front that has k first, or has nothing
seq_split : (r s : Regular) (k : ℕ) (w u v : List ℕ) → Less r k → Less s k → Matches r u → Matches s v → k ∷ w ≡ u ++ v → Matches (seq (left r k) s) w ⊎ ((nullable r ≡ true) × Matches (left s k) w)
seq_split r s k w [] v f g mr ms e = inr (matches-nullable r mr, g w (subst (λ (l : List ℕ). Matches s l) (sym e) ms))
seq_split r s k w (b ∷ u) v f g mr ms e =
    let same : b ≡ k = cc in
    let rest : w ≡ u ++ v = cc in
    inl (u, v, f u (subst (λ (x : ℕ). Matches r (x ∷ u)) same mr), ms, rest)

seq_less : (r s : Regular) (k : ℕ) (w : List ℕ) (t : Bool) → nullable r ≡ t → Matches (seq (left r k) s) w ⊎ ((nullable r ≡ true) × Matches (left s k) w) → Matches (if t then alt_of (seq_of (left r k) s) (left s k) else seq_of (left r k) s) w
seq_less r s k w true e (inl m) = alt-alt_of (seq_of (left r k) s) (left s k) w (inl (seq-seq_of (left r k) s w m))
seq_less r s k w true e (inr m) = alt-alt_of (seq_of (left r k) s) (left s k) w (inr m.1)
seq_less r s k w false e (inl m) = seq-seq_of (left r k) s w m
seq_less r s k w false e (inr m) = absurd (differ e m.0)
  where
    differ : nullable r ≡ false → nullable r ≡ true → ⊥
    differ a b = cc

alt_less : (r s : Regular) (k : ℕ) (w : List ℕ) → Less r k → Less s k → Matches r (k ∷ w) ⊎ Matches s (k ∷ w) → Matches (left r k) w ⊎ Matches (left s k) w
alt_less r s k w f g (inl m) = inl (f w m)
alt_less r s k w f g (inr m) = inr (g w m)

many_less : (r : Regular) (k : ℕ) (w : List ℕ) (ws : List (List ℕ)) → Less r k → Each (Matches r) ws → k ∷ w ≡ joined ws → Matches (seq (left r k) (many r)) w
many_less r k w [] f each e = cc
many_less r k w ([] ∷ ws) f each e = many_less r k w ws f each.1 e
many_less r k w ((b ∷ u) ∷ ws) f each e =
    let same : b ≡ k = cc in
    let rest : w ≡ u ++ joined ws = cc in
    (u, joined ws, f u (subst (λ (x : ℕ). Matches r (x ∷ u)) same each.0), (ws, each.1, refl), rest)

pub matches-left : (r : Regular) (k : ℕ) (w : List ℕ) → Matches r (k ∷ w) → Matches (left r k) w
matches-left nothing k w m = m
matches-left nil k w m = cc
matches-left (one_of js) k w m = one_less js k m.0 w m.1 m.2
matches-left (seq r s) k w m = seq_less r s k w (nullable r) refl (seq_split r s k w m.0 m.1 (matches-left r k) (matches-left s k) m.2 m.3 m.4)
matches-left (alt r s) k w m = alt-alt_of (left r k) (left s k) w (alt_less r s k w (matches-left r k) (matches-left s k) m)
matches-left (many r) k w m = seq-seq_of (left r k) (many r) w (many_less r k w m.0 (matches-left r k) m.1 m.2)

-- ---- what is alive has a text

pub alive-some : (r : Regular) → is_alive r ≡ true → (w : List ℕ) × Matches r w
alive-some nothing e = cc
alive-some nil e = ([], refl)
alive-some (one_of []) e = cc
alive-some (one_of (k ∷ ks)) e = (k ∷ [], (k, first k (nat_eq k k) refl, refl))
  where
    first : (k : ℕ) (t : Bool) → nat_eq k k ≡ t → (t || is_among ks k) ≡ true
    first k true e = refl
    first k false e = absurd (differ e)
      where
        differ : nat_eq k k ≡ false → ⊥
        differ e = grind (arith, e)
alive-some (seq r s) e =
    let p = and_parts (is_alive r) (is_alive s) e in
    let a = alive-some r p.0 in
    let b = alive-some s p.1 in
    (a.0 ++ b.0, (a.0, b.0, a.1, b.1, refl))
alive-some (alt r s) e =
    let p = and_parts (is_alive r) (is_alive s) e in
    let a = alive-some r p.0 in
    (a.0, inl a.1)
alive-some (many r) e = ([], ([], tt, refl))

-- ---- after a text

pub lefts-matches : (r : Regular) (w v : List ℕ) → Matches (lefts r w) v → Matches r (w ++ v)
lefts-matches r [] v m = m
lefts-matches r (k ∷ w) v m = left-matches r k (w ++ v) (lefts-matches (left r k) w v m)

pub matches-lefts : (r : Regular) (w v : List ℕ) → Matches r (w ++ v) → Matches (lefts r w) v
matches-lefts r [] v m = m
matches-lefts r (k ∷ w) v m = matches-lefts (left r k) w v (matches-left r k (w ++ v) m)

pub lefts-append : (r : Regular) (w v : List ℕ) → lefts r (w ++ v) ≡ lefts (lefts r w) v
lefts-append r [] v = refl
lefts-append r (k ∷ w) v = lefts-append (left r k) w v

pub alive-begins : (r s : Regular) (w : List ℕ) → lefts r w ≡ s → is_alive s ≡ true → Begins r w
alive-begins r s w e a =
    let m = alive-some s a in
    (m.0, lefts-matches r w m.0 (subst (λ (t : Regular). Matches t m.0) (sym e) m.1))

pub nothing-begins : (r : Regular) (w : List ℕ) → lefts r w ≡ nothing → Begins r w → ⊥
nothing-begins r w e b = subst (λ (t : Regular). Matches t b.0) e (matches-lefts r w b.0 b.1)

nil_right : (w : List ℕ) → w ++ [] ≡ w
nil_right [] = refl
nil_right (b ∷ w) = ap (λ (l : List ℕ). b ∷ l) (nil_right w)

pub ends-matches : (r s : Regular) (w : List ℕ) → lefts r w ≡ s → nullable s ≡ true → Matches r w
ends-matches r s w e n =
    let m = lefts-matches r w [] (subst (λ (t : Regular). Matches t []) (sym e) (nullable-matches s n)) in
    subst (λ (l : List ℕ). Matches r l) (nil_right w) m

pub matches-ends : (r s : Regular) (w : List ℕ) → lefts r w ≡ s → Matches r w → nullable s ≡ true
matches-ends r s w e m =
    let there : Matches (lefts r w) [] = matches-lefts r w [] (subst (λ (l : List ℕ). Matches r l) (sym (nil_right w)) m) in
    matches-nullable s (subst (λ (t : Regular). Matches t []) e there)
