-- What the grammar reads of some words, taken apart as its productions are.
use Rattle.std.specs.List.{list_all}
use Rattle.std.proofs.Common.{ℕ, ◌≡◌, ◌⊎◌, inl, inr, Bool, true, false, ◌&&◌, ◌==◌, nat_eq, if◌then◌else◌, List, [], ◌∷◌, ◌++◌, refl, sym, ap, subst, ◌∙◌, arith}
use Rattle.std.proofs.lemmas.Bool.{and_parts, or_cases, false≢true}
use Rattle.list_laws.proofs.Each.{all_joined}
use Rattle.list_laws.proofs.Lists.{cons_same, tails}
use Rattle.regular_expressions.specs.Regular.{Regular, nothing, nil, one_of, seq, alt, many, is_among, joined, Matches, Each}
use Rattle.query_grammar.specs.declared.kind.Kind.{Kind}
use Rattle.query_grammar.specs.declared.kind.Kind.TheVariants as kinds
use Rattle.regular_expressions.specs.Combinators.{◌·◌}
use Rattle.query_grammar.specs.Grammar.{code, codes, a, iri}
use Rattle.query_words.specs.declared.word.Word.{Word}
use Rattle.query_words.specs.Words.{kind_of, kinds_of}

-- these words match, by their kinds
abbrev pub Is : Regular → List Word → Type 0
Is r ws = Matches r (codes (kinds_of ws))

-- each of these words matches
abbrev pub Are : Regular → List (List Word) → Type 0
Are r [] = Unit {0}
Are r (x ∷ xs) = Is r x × Are r xs

-- the words one after another
abbrev pub flat : List (List Word) → List Word
flat [] = []
flat (x ∷ xs) = x ++ flat xs

-- ---- from letters to words

no_cons : (k : ℕ) (v : List ℕ) → [] ≡ k ∷ v → ⊥
no_cons k v e = cc

heads : (j k : ℕ) (u v : List ℕ) → j ∷ u ≡ k ∷ v → j ≡ k
heads j k u v e = cc

-- the letters of words in two parts are those of two lists of words
pub split : (ws : List Word) (u v : List ℕ) → codes (kinds_of ws) ≡ u ++ v → (xs : List Word) × (ys : List Word) × (ws ≡ xs ++ ys) × (codes (kinds_of xs) ≡ u) × (codes (kinds_of ys) ≡ v)
split ws [] v e = ([], ws, refl, refl, e)
split [] (k ∷ u) v e = absurd (no_cons k (u ++ v) e)
split (w ∷ ws) (k ∷ u) v e =
    let j = code (kind_of w.value) in
    let r = split ws u v (tails j k (codes (kinds_of ws)) (u ++ v) e) in
    (w ∷ r.0, r.1, ap (λ (l : List Word). w ∷ l) r.2, cons_same j k (codes (kinds_of r.0)) u (heads j k (codes (kinds_of ws)) (u ++ v) e) r.3, r.4)

-- one after the other
pub seq_split : (r s : Regular) (ws : List Word) → Is (seq r s) ws → (xs : List Word) × (ys : List Word) × Is r xs × Is s ys × (ws ≡ xs ++ ys)
seq_split r s ws m =
    let d = split ws m.0 m.1 m.4 in
    (d.0, d.1, subst (λ (u : List ℕ). Matches r u) (sym d.3) m.2, subst (λ (u : List ℕ). Matches s u) (sym d.4) m.3, d.2)

pub none : (ws : List Word) → codes (kinds_of ws) ≡ [] → ws ≡ []
none [] e = refl
none (w ∷ ws) e = absurd (no_cons (code (kind_of w.value)) (codes (kinds_of ws)) (sym e))

-- any number of one
pub many_split : (r : Regular) (ws : List Word) → Is (many r) ws → (xs : List (List Word)) × Are r xs × (ws ≡ flat xs)
many_split r ws m = each ws m.0 m.1 m.2
  where
    each : (ws : List Word) (us : List (List ℕ)) → Each (Matches r) us → codes (kinds_of ws) ≡ joined us → (xs : List (List Word)) × Are r xs × (ws ≡ flat xs)
    each ws [] h e = ([], tt, none ws e)
    each ws (u ∷ us) h e =
        let d = split ws u (joined us) e in
        let rest = each d.1 us h.1 d.4 in
        (d.0 ∷ rest.0, (subst (λ (l : List ℕ). Matches r l) (sym d.3) h.0, rest.1), d.2 ∙ ap (λ (l : List Word). d.0 ++ l) rest.2)

-- ---- one word

-- the kind of a letter
kind_at : ℕ → Kind
kind_at n = if n == 0 then kinds.Iri else (if n == 1 then kinds.Prefix else (if n == 2 then kinds.Prefixed else (if n == 3 then kinds.Variable else (if n == 4 then kinds.Blank else (if n == 5 then kinds.Anonymous else (if n == 6 then kinds.Str else (if n == 7 then kinds.Tag else (if n == 8 then kinds.Number else (if n == 9 then kinds.PrefixWord else (if n == 10 then kinds.SelectWord else (if n == 11 then kinds.WhereWord else (if n == 12 then kinds.TrueWord else (if n == 13 then kinds.FalseWord else (if n == 14 then kinds.TypeWord else (if n == 15 then kinds.OtherWord else (if n == 16 then kinds.OpenBrace else (if n == 17 then kinds.CloseBrace else (if n == 18 then kinds.Dot else (if n == 19 then kinds.Semicolon else (if n == 20 then kinds.Comma else (if n == 21 then kinds.Star else (if n == 22 then kinds.Carets else (if n == 23 then kinds.DistinctWord else (if n == 24 then kinds.OptionalWord else kinds.UnionWord))))))))))))))))))))))))

kind_back : (k : Kind) → kind_at (code k) ≡ k
unfolding kind_at
kind_back kinds.Iri = refl
kind_back kinds.Prefix = refl
kind_back kinds.Prefixed = refl
kind_back kinds.Variable = refl
kind_back kinds.Blank = refl
kind_back kinds.Anonymous = refl
kind_back kinds.Str = refl
kind_back kinds.Tag = refl
kind_back kinds.Number = refl
kind_back kinds.PrefixWord = refl
kind_back kinds.SelectWord = refl
kind_back kinds.WhereWord = refl
kind_back kinds.TrueWord = refl
kind_back kinds.FalseWord = refl
kind_back kinds.TypeWord = refl
kind_back kinds.OtherWord = refl
kind_back kinds.OpenBrace = refl
kind_back kinds.CloseBrace = refl
kind_back kinds.Dot = refl
kind_back kinds.Semicolon = refl
kind_back kinds.Comma = refl
kind_back kinds.Star = refl
kind_back kinds.Carets = refl
kind_back kinds.DistinctWord = refl
kind_back kinds.OptionalWord = refl
kind_back kinds.UnionWord = refl

same_kind : (j k : Kind) → code j ≡ code k → j ≡ k
same_kind j k e = sym (kind_back j) ∙ ap kind_at e ∙ kind_back k

among_one : (j k : ℕ) → is_among (j ∷ []) k ≡ true → j ≡ k
among_one j k e = pick (or_cases (nat_eq j k) false e)
  where
    pick : (nat_eq j k ≡ true) ⊎ (false ≡ true) → j ≡ k
    pick (inl h) = grind (arith, h)
    pick (inr h) = absurd (false≢true h)

-- a word of a kind
pub one : (k : Kind) (ws : List Word) → Is (a k) ws → (w : Word) × (ws ≡ w ∷ []) × (kind_of w.value ≡ k)
one k [] m = absurd (no_cons m.0 [] m.2)
one k (w ∷ []) m =
    let j = code (kind_of w.value) in
    let there : j ≡ code k = heads j m.0 [] [] m.2 ∙ sym (among_one (code k) m.0 m.1) in
    (w, refl, same_kind (kind_of w.value) k there)
one k (w ∷ x ∷ ws) m =
    let e = tails (code (kind_of w.value)) m.0 (code (kind_of x.value) ∷ codes (kinds_of ws)) [] m.2 in
    absurd (no_cons (code (kind_of x.value)) (codes (kinds_of ws)) (sym e))

-- a word of a kind, and what follows it
pub marked : (k : Kind) (r : Regular) (ws : List Word) → Is (a k · r) ws → (w : Word) × (ys : List Word) × (ws ≡ w ∷ ys) × (kind_of w.value ≡ k) × Is r ys
marked k r ws m =
    let d = seq_split (a k) r ws m in
    let o = one k d.0 d.2 in
    (o.0, d.1, d.4 ∙ ap (λ (l : List Word). l ++ d.1) o.1, o.2, d.3)

-- a word of a kind that passes a test
pub leaf : (test : Kind → Bool) (k : Kind) → test k ≡ true → (ws : List Word) → Is (a k) ws → (w : Word) × (ws ≡ w ∷ []) × (test (kind_of w.value) ≡ true)
leaf test k t ws m = let o = one k ws m in (o.0, o.1, ap test o.2 ∙ t)

-- an IRI or a prefixed name, where the test passes both
pub iri_leaf : (test : Kind → Bool) → test kinds.Iri ≡ true → test kinds.Prefixed ≡ true → test kinds.Prefix ≡ true → (ws : List Word) → Is iri ws → (w : Word) × (ws ≡ w ∷ []) × (test (kind_of w.value) ≡ true)
iri_leaf test t u v ws (inl (inl m)) = leaf test kinds.Iri t ws m
iri_leaf test t u v ws (inl (inr m)) = leaf test kinds.Prefixed u ws m
iri_leaf test t u v ws (inr m) = leaf test kinds.Prefix v ws m

-- ---- the letters of a text that matches

-- each letter of the expression passes
abbrev pub only : (ℕ → Bool) → Regular → Bool
only p nothing = true
only p nil = true
only p (one_of js) = list_all p js
only p (seq r s) = only p r && only p s
only p (alt r s) = only p r && only p s
only p (many r) = only p r

all_each : (p : ℕ → Bool) (r : Regular) → ((w : List ℕ) → Matches r w → list_all p w ≡ true) → (us : List (List ℕ)) → Each (Matches r) us → list_all p (joined us) ≡ true
all_each p r f [] h = refl
all_each p r f (u ∷ us) h = all_joined p u (joined us) (f u h.0) (all_each p r f us h.1)

pub among_passes : (p : ℕ → Bool) (js : List ℕ) (k : ℕ) → list_all p js ≡ true → is_among js k ≡ true → p k ≡ true
among_passes p [] k a e = cc
among_passes p (j ∷ js) k a e =
    let h = and_parts (p j) (list_all p js) a in
    pick h.0 (λ f. among_passes p js k h.1 f) (or_cases (nat_eq j k) (is_among js k) e)
  where
    pick : p j ≡ true → (is_among js k ≡ true → p k ≡ true) → (nat_eq j k ≡ true) ⊎ (is_among js k ≡ true) → p k ≡ true
    pick h g (inl f) = let same : j ≡ k = grind (arith, f) in subst (λ (i : ℕ). p i ≡ true) same h
    pick h g (inr f) = g f

one_passes : (p : ℕ → Bool) (k : ℕ) (w : List ℕ) → p k ≡ true → w ≡ k ∷ [] → list_all p w ≡ true
one_passes p k w h e = rw (e, h) refl

-- then each letter of a text that matches passes
pub only_all : (p : ℕ → Bool) (r : Regular) → only p r ≡ true → (w : List ℕ) → Matches r w → list_all p w ≡ true
only_all p nothing e w m = absurd m
only_all p nil e w m = rw m refl
only_all p (one_of js) e w m = one_passes p m.0 w (among_passes p js m.0 e m.1) m.2
only_all p (seq r s) e w m =
    let h = and_parts (only p r) (only p s) e in
    subst (λ (l : List ℕ). list_all p l ≡ true) (sym m.4) (all_joined p m.0 m.1 (only_all p r h.0 m.0 m.2) (only_all p s h.1 m.1 m.3))
only_all p (alt r s) e w (inl m) = only_all p r (and_parts (only p r) (only p s) e).0 w m
only_all p (alt r s) e w (inr m) = only_all p s (and_parts (only p r) (only p s) e).1 w m
only_all p (many r) e w m =
    subst (λ (l : List ℕ). list_all p l ≡ true) (sym m.2) (all_each p r (only_all p r e) m.0 m.1)
