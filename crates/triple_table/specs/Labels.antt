-- The labels of blank nodes, and the first that clashes.
use Rattle.std.specs.Prelude.{ℕ, ◌<◌, ◌≤◌, Option, Some, None, List, [], map, length, slice_index_or}
use Rattle.std.specs.List.{Contains}
use Rattle.std.specs.Borrow.{Bor}
use Rattle.rdf_terms.specs.declared.term.Term.{Term}
use Rattle.rdf_terms.specs.declared.term.Term.TheVariants.{Iri, Blank, Literal}
use Rattle.triple_table.specs.Genid.{genid}

-- what borrowed texts hold
abbrev pub texts : List (Bor (List ℕ)) → List (List ℕ)
texts borrowed = map (λ (text : Bor (List ℕ)). text.now) borrowed

-- the label, if the term is a blank node
abbrev pub label_of : Term → Option (List ℕ)
label_of (Iri text) = None
label_of (Blank label) = Some label
label_of (Literal form kind) = None

-- n is the first place of a label whose IRI is among the terms, or the number of labels
pub record IsFirstClash (authority : List ℕ) (labels : List (List ℕ)) (terms : List Term) (n : ℕ) : Type 0 where
  pub within : n ≤ length labels
  pub found : n < length labels → Contains terms (Iri (genid authority (slice_index_or labels n [])))
  pub before : (k : ℕ) → k < n → ¬ (Contains terms (Iri (genid authority (slice_index_or labels k []))))
