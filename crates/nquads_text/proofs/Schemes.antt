-- Texts that begin with a known scheme.
use Rattle.std.proofs.Common.{ℕ, ◌≡◌, true, List, [], ◌∷◌, ◌++◌, nat_eq, refl, sym, subst, arith}
use Rattle.std.specs.List.{starts_with}
use Rattle.std.proofs.lemmas.Bool.{and_parts}
use Rattle.list_laws.proofs.Lists.{cons_same}
use Rattle.rdf_terms.specs.Iri.{has_scheme}

-- what begins with a list is that list and more
prefix_rest : (p s : List ℕ) → starts_with nat_eq s p ≡ true → (rest : List ℕ) × (s ≡ p ++ rest)
prefix_rest [] s e = (s, refl)
prefix_rest (x ∷ p) [] e = cc
prefix_rest (x ∷ p) (y ∷ s) e =
    let h = and_parts (nat_eq x y) (starts_with nat_eq s p) e in
    let same : y ≡ x = grind (arith, h.0) in
    let more = prefix_rest p s h.1 in
    (more.0, cons_same y x s (p ++ more.0) same more.1)

-- what begins with http: has a scheme
pub http_goes : (s : List ℕ) → starts_with nat_eq s (104 ∷ 116 ∷ 116 ∷ 112 ∷ 58 ∷ []) ≡ true → has_scheme s ≡ true
http_goes s e = let r = prefix_rest (104 ∷ 116 ∷ 116 ∷ 112 ∷ 58 ∷ []) s e in subst (λ (t : List ℕ). has_scheme t ≡ true) (sym r.1) refl
