-- The places of texts in a list with one more text at its end.
use Rattle.std.proofs.Common.{ℕ, ◌≡◌, ◌+◌, Bool, true, false, cond, if◌then◌else◌, List, [], ◌∷◌, ◌++◌, Option, Some, None, refl, sym, ap, subst, ◌∙◌, length, arith, zero-add}
use Rattle.std.specs.List.{position_from}
use Rattle.std.specs.Str.{bytes_eq}
use Rattle.pattern_parser.specs.Names.{anonymous, place_of}
use Rattle.list_laws.proofs.Bytes.{same_is}

abbrev last_or : Bool → Option ℕ → ℕ → Option ℕ
last_or b None n = cond b (Some n) None
last_or b (Some k) n = Some k

one_on : (b x : Bool) (i n : ℕ) (o p : Option ℕ) → o ≡ last_or x p n → cond b (Some i) o ≡ last_or x (cond b (Some i) p) n
one_on true x i n o p e = refl
one_on false x i n o p e = e

position_push : (t : List ℕ → Bool) (i : ℕ) (xs : List (List ℕ)) (x : List ℕ) → position_from t i (xs ++ x ∷ []) ≡ last_or (t x) (position_from t i xs) (i + length xs)
position_push t i [] x = let e : i ≡ i + 0 = omega arith in ap (λ (n : ℕ). cond (t x) (Some n) None) e
position_push t i (y ∷ ys) x =
    let e : i + 1 + length ys ≡ i + length (y ∷ ys) = omega arith in
    one_on (t y) (t x) i (i + length (y ∷ ys)) (position_from t (i + 1) (ys ++ x ∷ [])) (position_from t (i + 1) ys) (position_push t (i + 1) ys x ∙ ap (λ (n : ℕ). last_or (t x) (position_from t (i + 1) ys) n) e)

kept : (o : Option ℕ) (n : ℕ) → o ≡ last_or false o n
kept None n = refl
kept (Some k) n = refl

-- a new text takes the next number
pub entry_added : (texts : List (List ℕ)) (t q : List ℕ) (old new : Option ℕ) → position_from (bytes_eq t) 0 texts ≡ None → old ≡ position_from (bytes_eq q) 0 texts → new ≡ cond (bytes_eq q t) (Some (length texts)) old → new ≡ position_from (bytes_eq q) 0 (texts ++ t ∷ [])
entry_added texts t q old new none e f = pick (bytes_eq q t) refl
  where
    pick : (b : Bool) → bytes_eq q t ≡ b → new ≡ position_from (bytes_eq q) 0 (texts ++ t ∷ [])
    pick true h =
        let there : position_from (bytes_eq q) 0 texts ≡ None = subst (λ (w : List ℕ). position_from (bytes_eq w) 0 texts ≡ None) (sym (same_is q t h)) none in
        let new_is : new ≡ Some (length texts) = f ∙ ap (λ (b : Bool). cond b (Some (length texts)) old) h in
        let last : last_or (bytes_eq q t) (position_from (bytes_eq q) 0 texts) (0 + length texts) ≡ Some (length texts) = rw (h, there) (ap (λ (n : ℕ). let r : Option ℕ = Some n in r) (zero-add (length texts))) in
        new_is ∙ sym last ∙ sym (position_push (bytes_eq q) 0 texts t)
    pick false h =
        let new_is : new ≡ position_from (bytes_eq q) 0 texts = f ∙ ap (λ (b : Bool). cond b (Some (length texts)) old) h ∙ e in
        new_is ∙ kept (position_from (bytes_eq q) 0 texts) (0 + length texts) ∙ ap (λ (b : Bool). last_or b (position_from (bytes_eq q) 0 texts) (0 + length texts)) (sym h) ∙ sym (position_push (bytes_eq q) 0 texts t)

-- another text keeps its number
pub entry_kept : (texts : List (List ℕ)) (t q : List ℕ) (old : Option ℕ) → bytes_eq q t ≡ false → old ≡ position_from (bytes_eq q) 0 texts → old ≡ position_from (bytes_eq q) 0 (texts ++ t ∷ [])
entry_kept texts t q old h e =
    e ∙ kept (position_from (bytes_eq q) 0 texts) (0 + length texts) ∙ ap (λ (b : Bool). last_or b (position_from (bytes_eq q) 0 texts) (0 + length texts)) (sym h) ∙ sym (position_push (bytes_eq q) 0 texts t)

-- what differs from an equal of a text differs from the text
pub other_too : (q t a : List ℕ) → bytes_eq t a ≡ true → bytes_eq q a ≡ false → bytes_eq q t ≡ false
other_too q t a e f = subst (λ (w : List ℕ). bytes_eq q w ≡ false) (sym (same_is t a e)) f

-- a text that is not found stands nowhere
pub not_found : (texts : List (List ℕ)) (t : List ℕ) → bytes_eq t anonymous ≡ false → place_of texts t ≡ None → position_from (bytes_eq t) 0 texts ≡ None
not_found texts t e f = pick (bytes_eq t anonymous) e f
  where
    pick : (b : Bool) → b ≡ false → (if b then None else position_from (bytes_eq t) 0 texts) ≡ None → position_from (bytes_eq t) 0 texts ≡ None
    pick true e f = absurd (differ e)
      where
        differ : true ≡ false → ⊥
        differ e = cc
    pick false e f = f
