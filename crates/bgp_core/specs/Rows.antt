-- How contracts see a row: the names that are bound, spread over all places.
use Rattle.std.specs.Prelude.{ℕ, zero, suc, ◌==◌, List, [], ◌∷◌, Option, Some, None, if◌then◌else◌}
use Rattle.rdf_terms.specs.declared.term.Term.{Term}
use Rattle.bgp_core.specs.declared.row.Bound.{Bound}
use Rattle.bgp_core.specs.Solutions.{Places}

abbrev pub bound_pair : Bound → ℕ × Term
bound_pair b = (b.name, b.term.value)

-- the term of a name
abbrev pub term_in : ℕ → List (ℕ × Term) → Option Term
term_in n [] = None
term_in n (b ∷ bs) = if b.0 == n then Some b.1 else term_in n bs

-- the places of the names from i on
abbrev pub places_from : ℕ → ℕ → List (ℕ × Term) → Places
places_from i zero bs = []
places_from i (suc n) bs = term_in i bs ∷ places_from (suc i) n bs
