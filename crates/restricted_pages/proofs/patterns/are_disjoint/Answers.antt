use Rattle.std.proofs.Common.{ℕ, ◌≡◌, ◌+◌, ◌<◌, Bool, true, false, ltb, List, length, get_or, refl, sym, subst, ◌∙◌, arith}
use Rattle.list_laws.proofs.Places.{any_default}
use Rattle.triple_table.specs.declared.ids.IdPattern.{IdPattern}
use Rattle.restricted_pages.specs.Patterns.{are_apart}
use Rattle.restricted_pages.proofs.patterns.are_disjoint.Goals as goal

-- what holds below j and at j
later : (xs : List IdPattern) (i j : ℕ) (none : IdPattern) → i < j → j < length xs → ((k : ℕ) (d : IdPattern) → i < k → k < j → are_apart (get_or xs i d) (get_or xs k d) ≡ true) → are_apart (get_or xs i none) (get_or xs j none) ≡ true →
    (k : ℕ) (d : IdPattern) → i < k → k < j + 1 → are_apart (get_or xs i d) (get_or xs k d) ≡ true
later xs i j none l m below here k d a b = by (ltb k j) refl
  where
    by : (t : Bool) → ltb k j ≡ t → are_apart (get_or xs i d) (get_or xs k d) ≡ true
    by true t = below k d a (grind (arith, t))
    by false t =
        let same : j ≡ k = grind (arith, t, b) in
        subst (λ n. are_apart (get_or xs i d) (get_or xs n d) ≡ true) same
        (subst (λ x. are_apart x (get_or xs j d) ≡ true) (any_default xs i none d (omega (arith, l, m))) (subst (λ y. are_apart (get_or xs i none) y ≡ true) (any_default xs j none d m) here))

-- the same of the first of the two
earlier : (xs : List IdPattern) (i : ℕ) → ((a b : ℕ) (d : IdPattern) → a < i → a < b → b < length xs → are_apart (get_or xs a d) (get_or xs b d) ≡ true) → ((b : ℕ) (d : IdPattern) → i < b → b < length xs → are_apart (get_or xs i d) (get_or xs b d) ≡ true) →
    (a b : ℕ) (d : IdPattern) → a < i + 1 → a < b → b < length xs → are_apart (get_or xs a d) (get_or xs b d) ≡ true
earlier xs i before here a b d l m n = by (ltb a i) refl
  where
    by : (t : Bool) → ltb a i ≡ t → are_apart (get_or xs a d) (get_or xs b d) ≡ true
    by true t = before a b d (grind (arith, t)) m n
    by false t =
        let same : i ≡ a = grind (arith, t, l) in
        subst (λ k. are_apart (get_or xs k d) (get_or xs b d) ≡ true) same (here b d (omega (arith, same, m)) n)

pub loop-j-preserved : goal.loop-j-preserved
loop-j-preserved c = later c.args.patterns.now c.loop-i.i c.loop-j.j _ (let l = c.loop-j.auto.j in omega (arith, l)) c.loop-j-test.true c.loop-j.invariant (sym c.are_apart.ensures ∙ c.if-not-are_apart.false)

pub loop-i-preserved : goal.loop-i-preserved
loop-i-preserved c =
    let past = c.loop-j-test.false in
    earlier c.args.patterns.now c.loop-i.i c.loop-i.invariant (λ b d l m. c.loop-j.invariant b d l (omega (arith, m, past)))
