-- Rows by the pairs of their bound names. It serves the proofs alone.
use Rattle.std.specs.Prelude.{ℕ, Bool, true, ◌&&◌, List, [], ◌∷◌, Option, Some, None, if◌then◌else◌, slice_index_or, nat_lt}
use Rattle.std.specs.List.{flat_map}
use Rattle.rdf_terms.specs.declared.term.Term.{Term}
use Rattle.bgp_core.specs.Solutions.{Places, term_at}
use Rattle.bgp_core.specs.Merging.{agree_at}

-- each of these names has one term in the rows that bind it
abbrev pub all_agree : Places → Places → List (ℕ × Term) → Bool
all_agree r s [] = true
all_agree r s (b ∷ bs) = agree_at (term_at r b.0) (term_at s b.0) && all_agree r s bs

-- a pair, where nothing is bound yet
abbrev pub unless_bound : Option Term → (ℕ × Term) → List (ℕ × Term)
unless_bound None b = b ∷ []
unless_bound (Some t) b = []

-- those of some pairs whose names a row does not bind
abbrev pub unbound_in : Places → List (ℕ × Term) → List (ℕ × Term)
unbound_in r bs = flat_map (λ b. unless_bound (term_at r b.0) b) bs

abbrev pub pair_if : Bool → (ℕ × Term) → List (ℕ × Term)
pair_if b p = if b then p ∷ [] else []

-- those of some pairs whose names are kept, as one without a flag is
abbrev pub kept_pairs : List Bool → List (ℕ × Term) → List (ℕ × Term)
kept_pairs flags bs = flat_map (λ b. pair_if (slice_index_or flags b.0 true) b) bs

abbrev pub name_if : Bool → ℕ → List ℕ
name_if b n = if b then n ∷ [] else []

-- the names of some pairs that are below a count
abbrev pub names_below : ℕ → List (ℕ × Term) → List ℕ
names_below count bs = flat_map (λ b. name_if (nat_lt b.0 count) b.0) bs
