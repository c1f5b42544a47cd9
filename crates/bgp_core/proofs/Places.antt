-- The places of a row, from the names that are bound.
use Rattle.std.specs.Prelude.{MatchOption}
use Rattle.std.proofs.Common.{Bor, ℕ, zero, suc, ◌≡◌, ◌<◌, ◌≤◌, ◌+◌, nat_eq, Bool, true, false, if◌then◌else◌, List, [], ◌∷◌, ◌++◌, length, Option, Some, None, slice_get, slice_set, replicate, refl, ap, sym, subst, ◌∙◌, arith}
use Rattle.std.proofs.lemmas.Bool.Decides.{nat_tests}
use Rattle.list_laws.proofs.Tests.{self_test}
use Rattle.rdf_terms.specs.declared.term.Term.{Term}
use Rattle.bgp_core.specs.Solutions.{Places, joined, term_at}
use Rattle.bgp_core.specs.Rows.{term_in, places_from}

pub places-length : (i n : ℕ) (bs : List (ℕ × Term)) → length (places_from i n bs) ≡ n
places-length i zero bs = refl
places-length i (suc n) bs = let e : length (places_from (suc i) n bs) ≡ n = places-length (suc i) n bs in omega (arith, e)

pub places-empty : (i n : ℕ) → places_from i n [] ≡ replicate n None
places-empty i zero = refl
places-empty i (suc n) = ap (λ (l : Places). None ∷ l) (places-empty (suc i) n)

pub places-get : (i n : ℕ) (bs : List (ℕ × Term)) (k : ℕ) → k < n → slice_get (places_from i n bs) k ≡ Some (term_in (i + k) bs)
places-get i zero bs k h = absurd (omega arith)
places-get i (suc n) bs zero h = ap (λ m. let o : Option (Option Term) = Some (term_in m bs) in o) (let e : i ≡ i + 0 = omega arith in e)
places-get i (suc n) bs (suc k) h = places-get (suc i) n bs k (omega arith) ∙ ap (λ m. let o : Option (Option Term) = Some (term_in m bs) in o) (let e : suc i + k ≡ i + suc k = omega arith in e)

pub places-none : (i n : ℕ) (bs : List (ℕ × Term)) (k : ℕ) → n ≤ k → slice_get (places_from i n bs) k ≡ None
places-none i zero bs k h = refl
places-none i (suc n) bs zero h = absurd (omega arith)
places-none i (suc n) bs (suc k) h = places-none (suc i) n bs k (omega arith)

pub term-within : (n : ℕ) (bs : List (ℕ × Term)) (k : ℕ) → k < n → term_at (places_from 0 n bs) k ≡ term_in k bs
term-within n bs k h = ap joined (places-get 0 n bs k h) ∙ ap (λ m. term_in m bs) (let e : 0 + k ≡ k = omega arith in e)

pub term-beyond : (n : ℕ) (bs : List (ℕ × Term)) (k : ℕ) → n ≤ k → term_at (places_from 0 n bs) k ≡ None
term-beyond n bs k h = ap joined (places-none 0 n bs k h)

-- one more name
other-term : (b : Bool) (m : ℕ) (k : ℕ) (t : Term) → nat_eq k m ≡ b → (m ≡ k → ⊥) → term_in m ((k, t) ∷ []) ≡ None
other-term true m k t e h = absurd (h (grind (arith, nat_tests)))
other-term false m k t e h = rw e refl

more-other : (bs : List (ℕ × Term)) (m k : ℕ) (t : Term) → (m ≡ k → ⊥) → term_in m (bs ++ (k, t) ∷ []) ≡ term_in m bs
more-other [] m k t h = other-term (nat_eq k m) m k t refl h
more-other (b ∷ bs) m k t h = ap (λ o. if nat_eq b.0 m then Some b.1 else o) (more-other bs m k t h)

here-by : (x : Bool) (k : ℕ) (b : ℕ × Term) (rest : Option Term) (more : Option Term) (t : Term) → (if x then Some b.1 else rest) ≡ None → (rest ≡ None → more ≡ Some t) → (if x then Some b.1 else more) ≡ Some t
here-by true k b rest more t h g = cc
here-by false k b rest more t h g = g h

more-here : (bs : List (ℕ × Term)) (k : ℕ) (t : Term) → term_in k bs ≡ None → term_in k (bs ++ (k, t) ∷ []) ≡ Some t
more-here [] k t h = rw (self_test k) refl
more-here (b ∷ bs) k t h = here-by (nat_eq b.0 k) k b (term_in k bs) (term_in k (bs ++ (k, t) ∷ [])) t h (λ g. more-here bs k t g)

places-below : (i n : ℕ) (bs : List (ℕ × Term)) (k : ℕ) (t : Term) → k < i → places_from i n (bs ++ (k, t) ∷ []) ≡ places_from i n bs
places-below i zero bs k t h = refl
places-below i (suc n) bs k t h =
    let one : term_in i (bs ++ (k, t) ∷ []) ≡ term_in i bs = more-other bs i k t (λ e. omega (arith, e)) in
    let two : places_from (suc i) n (bs ++ (k, t) ∷ []) ≡ places_from (suc i) n bs = places-below (suc i) n bs k t (omega arith) in
    cc

places-push : (i n : ℕ) (bs : List (ℕ × Term)) (d : ℕ) (t : Term) → d < n → term_in (i + d) bs ≡ None → places_from i n (bs ++ (i + d, t) ∷ []) ≡ slice_set (places_from i n bs) d (Some t)
places-push i zero bs d t h f = absurd (omega arith)
places-push i (suc n) bs zero t h f =
    let here : i + 0 ≡ i = omega arith in
    let free : term_in i bs ≡ None = subst (λ m. term_in m bs ≡ None) here f in
    let one : term_in i (bs ++ (i, t) ∷ []) ≡ Some t = more-here bs i t free in
    let two : places_from (suc i) n (bs ++ (i, t) ∷ []) ≡ places_from (suc i) n bs = places-below (suc i) n bs i t (omega arith) in
    let whole : places_from i (suc n) (bs ++ (i, t) ∷ []) ≡ Some t ∷ places_from (suc i) n bs = cc in
    subst (λ m. places_from i (suc n) (bs ++ (m, t) ∷ []) ≡ Some t ∷ places_from (suc i) n bs) (sym here) whole
places-push i (suc n) bs (suc d) t h f =
    let there : i + suc d ≡ suc i + d = omega arith in
    let one : term_in i (bs ++ (i + suc d, t) ∷ []) ≡ term_in i bs = more-other bs i (i + suc d) t (λ e. omega (arith, e)) in
    let free : term_in (suc i + d) bs ≡ None = subst (λ m. term_in m bs ≡ None) there f in
    let two : places_from (suc i) n (bs ++ (i + suc d, t) ∷ []) ≡ slice_set (places_from (suc i) n bs) d (Some t) =
    subst (λ m. places_from (suc i) n (bs ++ (m, t) ∷ []) ≡ slice_set (places_from (suc i) n bs) d (Some t)) (sym there) (places-push (suc i) n bs d t (omega arith) free) in
    cc

pub places-bound : (n : ℕ) (bs : List (ℕ × Term)) (k : ℕ) (t : Term) → k < n → term_at (places_from 0 n bs) k ≡ None → places_from 0 n (bs ++ (k, t) ∷ []) ≡ slice_set (places_from 0 n bs) k (Some t)
places-bound n bs k t h f =
    let e : 0 + k ≡ k = omega arith in
    subst (λ m. places_from 0 n (bs ++ (m, t) ∷ []) ≡ slice_set (places_from 0 n bs) k (Some t)) e
    (places-push 0 n bs k t h (ap (λ m. term_in m bs) e ∙ sym (term-within n bs k h) ∙ f))

pub bind-done : (n : ℕ) (bs after : List (ℕ × Term)) (old : Places) (k : ℕ) (t : Term) → places_from 0 n bs ≡ old → k < length old → term_at old k ≡ None → after ≡ bs ++ (k, t) ∷ [] → places_from 0 n after ≡ slice_set old k (Some t)
bind-done n bs after old k t seen h f e =
    let below : k < n = omega (arith, places-length 0 n bs, ap length seen) in
    let free : term_at (places_from 0 n bs) k ≡ None = ap (λ (r : Places). term_at r k) seen ∙ f in
    ap (λ (l : List (ℕ × Term)). places_from 0 n l) e ∙ places-bound n bs k t below free ∙ ap (λ (r : Places). slice_set r k (Some t)) seen

pub at-within : (n : ℕ) (bs : List (ℕ × Term)) (row : Places) (k : ℕ) → places_from 0 n bs ≡ row → k < n → term_in k bs ≡ term_at row k
at-within n bs row k seen h = sym (term-within n bs k h) ∙ ap (λ (r : Places). term_at r k) seen

pub at-beyond : (n : ℕ) (bs : List (ℕ × Term)) (row : Places) (k : ℕ) → places_from 0 n bs ≡ row → n ≤ k → term_at row k ≡ None
at-beyond n bs row k seen h = sym (ap (λ (r : Places). term_at r k) seen) ∙ term-beyond n bs k h

pub told-so : (o : Option (Bor Term)) (a b : Option Term) → a ≡ b → MatchOption o (a ≡ None) (λ t. a ≡ Some t.now) → MatchOption o (b ≡ None) (λ t. b ≡ Some t.now)
told-so None a b e h = sym e ∙ h
told-so (Some t) a b e h = sym e ∙ h
