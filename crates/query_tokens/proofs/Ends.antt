-- A text is a token of a kind exactly where the machine stands at an end of that kind after it.
use Rattle.std.proofs.Common.{ℕ, zero, suc, ◌||◌, ◌≡◌, ◌+◌, ◌<◌, ◌≤◌, ◌⊎◌, inl, inr, Bool, true, false, List, [], ◌∷◌, ◌++◌, nat_eq, Option, Some, None, refl, sym, ap, subst, ◌∙◌, take, drop, length, get_or, arith, append_assoc}
use Rattle.std.proofs.lemmas.List.{take_more, map-append, take-append-drop, take-take}
use Rattle.regular_expressions.specs.Regular.{Regular, one_of, Matches, left, lefts, nullable}
use Rattle.regular_expressions.proofs.Left.{lefts-append, ends-matches, matches-ends, matches-lefts}
use Rattle.query_tokens.specs.declared.kind.PieceKind.{PieceKind}
use Rattle.query_tokens.specs.declared.machine.State.{State}
use Rattle.query_tokens.specs.Classes.{class_of}
use Rattle.query_tokens.specs.Machine.{next, kind_at}
use Rattle.query_tokens.specs.Forms.{form, letters, IsToken}
use Rattle.query_tokens.specs.Sets.{code}
use Rattle.query_tokens.proofs.Follows.{mark, place, place_below, at_place, one_place, any_of, all_kinds, token, rest_of, rest_after, same_kind, same_kind-is, is-same_kind, follows, ends}

-- ---- the mark at the end

last_same : (u v : List ℕ) (x y : ℕ) → u ++ x ∷ [] ≡ v ++ y ∷ [] → (u ≡ v) × (x ≡ y)
last_same [] [] x y e = (refl, cc)
last_same [] (b ∷ []) x y e = absurd (long e)
  where
    long : x ∷ [] ≡ b ∷ y ∷ [] → ⊥
    long e = cc
last_same [] (b ∷ c ∷ v) x y e = absurd (long e)
  where
    long : x ∷ [] ≡ b ∷ c ∷ (v ++ y ∷ []) → ⊥
    long e = cc
last_same (b ∷ []) [] x y e = absurd (long e)
  where
    long : b ∷ x ∷ [] ≡ y ∷ [] → ⊥
    long e = cc
last_same (b ∷ c ∷ u) [] x y e = absurd (long e)
  where
    long : b ∷ c ∷ (u ++ x ∷ []) ≡ y ∷ [] → ⊥
    long e = cc
last_same (b ∷ u) (c ∷ v) x y e =
    let tail : u ++ x ∷ [] ≡ v ++ y ∷ [] = cc in
    let ih = last_same u v x y tail in
    let head : b ≡ c = cc in
    let p : u ≡ v = ih.0 in
    (cc, ih.1)

one_mark : (j k : PieceKind) → mark j ≡ mark k → j ≡ k
one_mark j k e = let p : place j ≡ place k = omega (arith, e) in one_place j k p

abbrev pub IsIn : PieceKind → List PieceKind → Type 0
IsIn k [] = ⊥
IsIn k (j ∷ js) = (k ≡ j) ⊎ IsIn k js

nth_in : (k : PieceKind) (ks : List PieceKind) (i : ℕ) → i < length ks → get_or ks i k ≡ k → IsIn k ks
nth_in k [] i h e = absurd (omega arith)
nth_in k (j ∷ js) zero h e = inl (sym e)
nth_in k (j ∷ js) (suc i) h e = inr (nth_in k js i (omega arith) e)

pub in_all : (k : PieceKind) → IsIn k all_kinds
in_all k = nth_in k all_kinds (place k) (place_below k) (at_place k)

mark_letter : (j k : PieceKind) → k ≡ j → Matches (one_of (mark j ∷ [])) (mark k ∷ [])
mark_letter j k e = (mark j, itself (nat_eq (mark j) (mark j)) refl, ap (λ (i : PieceKind). let l : List ℕ = mark i ∷ [] in l) e)
  where
    itself : (b : Bool) → nat_eq (mark j) (mark j) ≡ b → (b || false) ≡ true
    itself true e = refl
    itself false e = absurd (differ (mark j) e)
      where
        differ : (n : ℕ) → nat_eq n n ≡ false → ⊥
        differ n e = grind (arith, e)

letter_mark : (j : PieceKind) (v : List ℕ) → Matches (one_of (mark j ∷ [])) v → v ≡ mark j ∷ []
letter_mark j v m = pick (nat_eq (mark j) m.0) refl
  where
    pick : (b : Bool) → nat_eq (mark j) m.0 ≡ b → v ≡ mark j ∷ []
    pick true e =
        let n : m.0 ≡ mark j = grind (arith, e) in
        m.2 ∙ ap (λ (k : ℕ). let l : List ℕ = k ∷ [] in l) n
    pick false e =
        let none : false ≡ true = sym (ap (λ (b : Bool). b || false) e) ∙ m.1 in
        absurd (differ none)
      where
        differ : false ≡ true → ⊥
        differ e = cc

marked : (k : PieceKind) (ks : List PieceKind) (w : List ℕ) → IsIn k ks → Matches (form k) w → Matches (any_of ks) (w ++ mark k ∷ [])
marked k [] w h m = absurd h
marked k (j ∷ js) w (inl e) m = inl (w, mark k ∷ [], subst (λ (i : PieceKind). Matches (form i) w) e m, mark_letter j k e, refl)
marked k (j ∷ js) w (inr h) m = inr (marked k js w h m)

unmarked : (k : PieceKind) (ks : List PieceKind) (w : List ℕ) → Matches (any_of ks) (w ++ mark k ∷ []) → Matches (form k) w
unmarked k [] w m = absurd m
unmarked k (j ∷ js) w (inl m) =
    let shape : w ++ mark k ∷ [] ≡ m.0 ++ mark j ∷ [] = m.4 ∙ ap (λ (l : List ℕ). m.0 ++ l) (letter_mark j m.1 m.3) in
    let same = last_same w m.0 (mark k) (mark j) shape in
    let kind : j ≡ k = one_mark j k (sym same.1) in
    let text : Matches (form j) w = subst (λ (l : List ℕ). Matches (form j) l) (sym same.0) m.2 in
    subst (λ (i : PieceKind). Matches (form i) w) kind text
unmarked k (j ∷ js) w (inr m) = unmarked k js w m

-- ---- after i characters

pub record At (cs : List ℕ) (i : ℕ) (o : Option State) : Type 0 where
  pub left_is : lefts token (letters (take i cs)) ≡ rest_after o

pub one_more : (cs : List ℕ) (i : ℕ) (s : State) (d : ℕ) (o : Option State) → i < length cs → At cs i (Some s) → next s (class_of (get_or cs i d)) ≡ o → At cs (i + 1) o
one_more cs i s d o below at e =
    let c = get_or cs i d in
    let k = code (class_of c) in
    let split : letters (take (i + 1) cs) ≡ letters (take i cs) ++ k ∷ [] = ap letters (take_more cs i d below) ∙ map-append (λ c. code (class_of c)) (take i cs) (c ∷ []) in
    let step_is : lefts token (letters (take i cs) ++ k ∷ []) ≡ left (lefts token (letters (take i cs))) k = lefts-append token (letters (take i cs)) (k ∷ []) in
    let after : left (rest_of s) k ≡ rest_after o = follows s (class_of c) ∙ ap rest_after e in
    record { left_is = ap (lefts token) split ∙ step_is ∙ ap (λ (r : Regular). left r k) at.left_is ∙ after }

-- what is left after the mark too
marked_left : (cs : List ℕ) (i : ℕ) (o : Option State) (k : PieceKind) → At cs i o → lefts token (letters (take i cs) ++ mark k ∷ []) ≡ left (rest_after o) (mark k)
marked_left cs i o k at = lefts-append token (letters (take i cs)) (mark k ∷ []) ∙ ap (λ (r : Regular). left r (mark k)) at.left_is

pub ends-token : (cs : List ℕ) (i : ℕ) (s : State) (k : PieceKind) → At cs i (Some s) → kind_at s ≡ Some k → IsToken k (take i cs)
unfolding token
ends-token cs i s k at e =
    let null : nullable (left (rest_of s) (mark k)) ≡ true = ends s k ∙ ap (λ (o : Option PieceKind). same_kind o k) e ∙ is-same_kind k in
    unmarked k all_kinds (letters (take i cs)) (ends-matches token (left (rest_of s) (mark k)) (letters (take i cs) ++ mark k ∷ []) (marked_left cs i (Some s) k at) null)

pub token-ends : (cs : List ℕ) (i : ℕ) (s : State) (k : PieceKind) → At cs i (Some s) → IsToken k (take i cs) → kind_at s ≡ Some k
unfolding token
token-ends cs i s k at t =
    let null : nullable (left (rest_of s) (mark k)) ≡ true = matches-ends token (left (rest_of s) (mark k)) (letters (take i cs) ++ mark k ∷ []) (marked_left cs i (Some s) k at) (marked k all_kinds (letters (take i cs)) (in_all k) t) in
    same_kind-is (kind_at s) k (sym (ends s k) ∙ null)

-- a longer front that is a token has what is left
pub left_over : (cs : List ℕ) (i m : ℕ) (o : Option State) (k : PieceKind) → At cs i o → i ≤ m → IsToken k (take m cs) → Matches (rest_after o) (letters (drop i (take m cs)) ++ mark k ∷ [])
unfolding token
left_over cs i m o k at h t =
    let front : take i (take m cs) ≡ take i cs = take-take i m cs h in
    let split : letters (take m cs) ≡ letters (take i cs) ++ letters (drop i (take m cs)) =
    sym (ap letters (take-append-drop i (take m cs))) ∙ map-append (λ c. code (class_of c)) (take i (take m cs)) (drop i (take m cs)) ∙ ap (λ (l : List ℕ). letters l ++ letters (drop i (take m cs))) front in
    let all : Matches token (letters (take m cs) ++ mark k ∷ []) = marked k all_kinds (letters (take m cs)) (in_all k) t in
    let moved : Matches token (letters (take i cs) ++ (letters (drop i (take m cs)) ++ mark k ∷ [])) = subst (λ (l : List ℕ). Matches token l) (ap (λ (l : List ℕ). l ++ mark k ∷ []) split ∙ append_assoc (letters (take i cs)) (letters (drop i (take m cs))) (mark k ∷ [])) all in
    let rest = matches-lefts token (letters (take i cs)) (letters (drop i (take m cs)) ++ mark k ∷ []) moved in
    subst (λ (r : Regular). Matches r (letters (drop i (take m cs)) ++ mark k ∷ [])) at.left_is rest

-- past a character with which no token goes on, no longer front is a token
pub none_longer : (cs : List ℕ) (i m : ℕ) (k : PieceKind) → At cs i None → i ≤ m → IsToken k (take m cs) → ⊥
none_longer cs i m k at h t = left_over cs i m None k at h t
