-- A triple is held against the patterns of its cell alone.
use Rattle.std.proofs.Common.{ℕ, zero, suc, ◌≡◌, ◌+◌, ◌*◌, ◌/◌, ◌%◌, ◌<◌, ◌&&◌, ◌||◌, ◌++◌, Bool, true, false, ltb, List, [], ◌∷◌, take, length, Option, Some, None, get_or, refl, sym, ap, subst, ◌∙◌, arith}
use Rattle.std.specs.List.{list_any}
use Rattle.std.proofs.lemmas.Bool.{and_from, and_parts, false≢true}
use Rattle.std.proofs.lemmas.Bool.Decides.{Decides-eqb}
use Rattle.std.proofs.lemmas.List.{take_more}
use Rattle.list_laws.proofs.Lists.{any_snoc}
use Rattle.triple_table.specs.declared.ids.IdTriple.{IdTriple}
use Rattle.triple_table.specs.declared.ids.IdPattern.{IdPattern}
use Rattle.restricted_pages.specs.declared.sieve.Cell.{Cell}
use Rattle.restricted_pages.specs.Cells.{IsCell, cell_of, may_match, may_stand}
use Rattle.restricted_pages.specs.Patterns.{fits, fits_id}

-- ---- the remainders of a cell

first : (a b c : ℕ) → b < 8 → c < 8 → (a * 64 + b * 8 + c) / 64 ≡ a
first a b c l m = omega (arith, l, m)

second : (a b c : ℕ) → b < 8 → c < 8 → (a * 64 + b * 8 + c) / 8 % 8 ≡ b
second a b c l m = omega (arith, l, m)

third : (a b c : ℕ) → c < 8 → (a * 64 + b * 8 + c) % 8 ≡ c
third a b c m = omega (arith, m)

small : (n : ℕ) → n % 8 < 8
small n = omega arith

-- ---- what fits may match

stands : (wanted : Option ℕ) (id remainder : ℕ) → remainder ≡ id % 8 → fits_id wanted id ≡ true → may_stand wanted remainder ≡ true
stands None id remainder e h = refl
stands (Some x) id remainder e h = (Decides-eqb (x % 8) remainder).1 (ap (λ n. n % 8) ((Decides-eqb x id).0 h) ∙ sym e)

may : (p : IdPattern) (t : IdTriple) → fits p t ≡ true → may_match p (cell_of t) ≡ true
may p t h =
    let one = and_parts (fits_id p.subject t.subject) (fits_id p.predicate t.predicate && fits_id p.object t.object) h in
    let two = and_parts (fits_id p.predicate t.predicate) (fits_id p.object t.object) one.1 in
    let a = t.subject % 8 in let b = t.predicate % 8 in let c = t.object % 8 in
    and_from _ _ (stands p.subject t.subject (cell_of t / 64) (first a b c (small t.predicate) (small t.object)) one.0)
    (and_from _ _ (stands p.predicate t.predicate (cell_of t / 8 % 8) (second a b c (small t.predicate) (small t.object)) two.0)
    (stands p.object t.object (cell_of t % 8) (third a b c (small t.object)) two.1))

never : (p : IdPattern) (t : IdTriple) (cell : ℕ) → may_match p cell ≡ false → cell_of t ≡ cell → fits p t ≡ false
never p t cell not_may at = by (fits p t) refl
  where
    by : (b : Bool) → fits p t ≡ b → b ≡ false
    by true h = absurd (false≢true (sym not_may ∙ subst (λ n. may_match p n ≡ true) at (may p t h)))
    by false h = refl

-- ---- one pattern more

module _ (ps some : List IdPattern) (i : ℕ) (d : IdPattern) (within : i < length ps) (t : IdTriple) (so_far : list_any (λ q. fits q t) some ≡ list_any (λ q. fits q t) (take i ps)) where
  more : list_any (λ q. fits q t) (take (i + 1) ps) ≡ (fits (get_or ps i d) t || list_any (λ q. fits q t) (take i ps))
  more = ap (list_any (λ q. fits q t)) (take_more ps i d within) ∙ any_snoc (λ q. fits q t) (take i ps) (get_or ps i d)

  pub taken : (new : List IdPattern) → new ≡ some ++ get_or ps i d ∷ [] → list_any (λ q. fits q t) new ≡ list_any (λ q. fits q t) (take (i + 1) ps)
  taken new is = ap (list_any (λ q. fits q t)) is ∙ any_snoc (λ q. fits q t) some (get_or ps i d) ∙ ap (λ b. fits (get_or ps i d) t || b) so_far ∙ sym more

  pub left_out : (new : List IdPattern) (cell : ℕ) → new ≡ some → may_match (get_or ps i d) cell ≡ false → cell_of t ≡ cell → list_any (λ q. fits q t) new ≡ list_any (λ q. fits q t) (take (i + 1) ps)
  left_out new cell is not_may at =
      ap (list_any (λ q. fits q t)) is ∙ so_far
      ∙ ap (λ b. b || list_any (λ q. fits q t) (take i ps)) (sym (never (get_or ps i d) t cell not_may at)) ∙ sym more

-- ---- one cell more

module _ (ps : List IdPattern) (x : Cell) where
  at_end : (cs : List Cell) (d : Cell) → get_or (cs ++ x ∷ []) (length cs) d ≡ x
  at_end [] d = refl
  at_end (c ∷ cs) d = at_end cs d

  before_end : (cs : List Cell) (k : ℕ) (d : Cell) → k < length cs → get_or (cs ++ x ∷ []) k d ≡ get_or cs k d
  before_end [] k d l = absurd (omega (arith, l))
  before_end (c ∷ cs) zero d l = refl
  before_end (c ∷ cs) (suc k) d l = before_end cs k d (omega (arith, l))

  pub one_more : (old new : List Cell) (n : ℕ) → length old ≡ n → ((k : ℕ) (d : Cell) → k < n → IsCell ps k (get_or old k d).patterns.items) → IsCell ps n x.patterns.items → new ≡ old ++ x ∷ [] →
      (k : ℕ) (d : Cell) → k < n + 1 → IsCell ps k (get_or new k d).patterns.items
  one_more old new n count before here e k d l = subst (λ (cs : List Cell). IsCell ps k (get_or cs k d).patterns.items) (sym e) (by (ltb k n) refl)
    where
      by : (b : Bool) → ltb k n ≡ b → IsCell ps k (get_or (old ++ x ∷ []) k d).patterns.items
      by true t =
          let less : k < n = grind (arith, t) in
          subst (λ (c : Cell). IsCell ps k c.patterns.items) (sym (before_end old k d (omega (arith, count, less)))) (before k d less)
      by false t =
          let same : length old ≡ k = grind (arith, t, l, count) in let first : n ≡ k = omega (arith, same, count) in
          subst (λ (c : Cell). IsCell ps k c.patterns.items) (sym (ap (λ i. get_or (old ++ x ∷ []) i d) (sym same) ∙ at_end old d)) (subst (λ i. IsCell ps i x.patterns.items) first here)
