-- The first clash among terms, piece by piece.
use Rattle.std.proofs.Common.{ℕ, ◌≡◌, ◌<◌, ◌≤◌, Bool, true, false, ltb, List, [], ◌++◌, refl, sym, subst, length, arith, min, ⊎_elim}
use Rattle.std.specs.Prelude.{slice_index_or}
use Rattle.std.specs.List.{Contains}
use Rattle.std.proofs.lemmas.List.Elements.{Contains-append_left, Contains-append_right, Contains-append_cases}
use Rattle.rdf_terms.specs.declared.term.Term.{Term}
use Rattle.rdf_terms.specs.declared.term.Term.TheVariants.{Iri}
use Rattle.triple_table.specs.Genid.{genid}
use Rattle.triple_table.specs.Labels.{IsFirstClash}

pub no_terms : (authority : List ℕ) (labels : List (List ℕ)) (n : ℕ) → n ≡ length labels → IsFirstClash authority labels [] n
no_terms authority labels n e = record {
  within = omega (arith, e);
  found = λ l. absurd (omega (arith, e, l));
  before = λ k l h. absurd (omega (arith, h.1));
}

pub both_clashes : (authority : List ℕ) (labels : List (List ℕ)) (xs ys : List Term) (m n : ℕ) →
    IsFirstClash authority labels xs m → IsFirstClash authority labels ys n → IsFirstClash authority labels (xs ++ ys) (min m n)
both_clashes authority labels xs ys m n f g = by (ltb m n) refl
  where
    P : ℕ → Type 0
    P k = Contains (xs ++ ys) (Iri (genid authority (slice_index_or labels k [])))

    neither : (k : ℕ) → k < m → k < n → P k → ⊥
    neither k l r h = ⊎_elim (f.before k l) (g.before k r) (Contains-append_cases xs ys _ h)

    by : (b : Bool) → ltb m n ≡ b → IsFirstClash authority labels (xs ++ ys) (min m n)
    by true t =
        let less : m < n = grind (arith, t) in
        let is : min m n ≡ m = omega (arith, less) in
        subst (λ k. IsFirstClash authority labels (xs ++ ys) k) (sym is) record {
          within = f.within;
          found = λ l. Contains-append_left xs ys _ (f.found l);
          before = λ k l. neither k l (omega (arith, l, less));
        }
    by false t =
        let less : n ≤ m = grind (arith, t) in
        let is : min m n ≡ n = omega (arith, less) in
        subst (λ k. IsFirstClash authority labels (xs ++ ys) k) (sym is) record {
          within = g.within;
          found = λ l. Contains-append_right xs ys _ (g.found l);
          before = λ k l. neither k (omega (arith, l, less)) l;
        }
