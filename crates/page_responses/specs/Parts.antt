-- What each byte of a triple's source is written as. A long line is written in parts, each of which is what so many bytes of the source are written as.
use Rattle.std.specs.Prelude.{ℕ, ◌≡◌, List, [], ◌∷◌, ◌++◌, map, length}
use Rattle.std.specs.List.{concat}
use Rattle.rdf_terms.specs.Canon.{canonical_byte, canonical_kind}
use Rattle.rdf_terms.specs.declared.term.Term.{Term}
use Rattle.rdf_terms.specs.declared.term.Term.TheVariants.{Iri, Blank, Literal}
use Rattle.rdf_terms.specs.declared.term.Triple.{Triple}
use Rattle.hydra_controls.specs.declared.cut.Cut.{Cut}
use Rattle.hydra_controls.specs.Cuts.{cut_behind, cut_of}

-- each byte as it is
abbrev pub plain_marks : List ℕ → List (List ℕ)
plain_marks text = map (λ (b : ℕ). b ∷ []) text

-- the bytes of a literal's form as they are written
abbrev pub form_marks : List ℕ → List (List ℕ)
form_marks form = map canonical_byte form

abbrev pub term_marks : Term → List (List ℕ)
term_marks (Iri text) = plain_marks (60 ∷ []) ++ (plain_marks text ++ plain_marks (62 ∷ []))
term_marks (Blank label) = plain_marks (95 ∷ 58 ∷ []) ++ plain_marks label
term_marks (Literal form kind) = plain_marks (34 ∷ []) ++ (form_marks form ++ (plain_marks (34 ∷ []) ++ plain_marks (canonical_kind kind)))

-- a term and what stands behind it
abbrev pub ended_marks : Term → List ℕ → List (List ℕ)
ended_marks term end = term_marks term ++ plain_marks end

-- of a line of the default graph
unfoldable pub triple_marks : Triple → List (List ℕ)
triple_marks t = ended_marks t.subject (32 ∷ []) ++ (ended_marks t.predicate (32 ∷ []) ++ ended_marks t.object (32 ∷ 46 ∷ 10 ∷ []))

-- the cut of what a source is written as was appended
pub record CutsMarks (old new : Cut) (marks : List (List ℕ)) (before after : List ℕ) : Type 0 where
  pub behind : new ≡ cut_behind old (length marks)
  pub appended : after ≡ before ++ concat (cut_of old marks)
