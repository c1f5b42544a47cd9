-- The canonical text of several lists of quads.
use Rattle.std.proofs.Common.{ℕ, ◌≡◌, List, [], ◌∷◌, ◌++◌, refl, ap, sym, ◌∙◌, append_assoc}
use Rattle.rdf_terms.specs.declared.term.Quad.{Quad}
use Rattle.rdf_terms.specs.Canon.{canonical_line, canon}

pub canon_of_both : (xs ys : List Quad) → canon (xs ++ ys) ≡ canon xs ++ canon ys
canon_of_both [] ys = refl
canon_of_both (x ∷ xs) ys = ap (λ (l : List ℕ). canonical_line x ++ l) (canon_of_both xs ys) ∙ sym (append_assoc (canonical_line x) (canon xs) (canon ys))
