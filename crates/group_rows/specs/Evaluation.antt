-- What a query with groups answers over a data set (SPARQL 1.1 Query, 18.5 and 18.6).
use Rattle.std.specs.Prelude.{ℕ, ◌==◌, Bool, true, false, not, ◌&&◌, List, [], ◌∷◌, ◌++◌, map, length, replicate, None, if◌then◌else◌, slice_set}
use Rattle.rdf_terms.specs.declared.term.Triple.{Triple}
use Rattle.bgp_core.specs.Solutions.{Places, solutions}
use Rattle.bgp_core.specs.Merging.{kept}
use Rattle.group_query.specs.Trees.{Tree, block, empty, join, optional, union, GroupData, group_tree}
use Rattle.row_algebra.specs.Algebra as rows

-- no name bound
abbrev pub unbound : List (List ℕ) → Places
unbound names = replicate (length names) None

-- the text of a blank node of a query begins with `_:`
abbrev pub is_blank_text : List ℕ → Bool
is_blank_text [] = false
is_blank_text (a ∷ []) = false
is_blank_text (a ∷ b ∷ cs) = (a == 95) && (b == 58)

-- for each name whether it is a variable
abbrev pub variables : List (List ℕ) → List Bool
variables names = map (λ t. not (is_blank_text t)) names

-- The rows of a group. Those of a block are its solutions, without what blank nodes stand for.
abbrev pub evaluation : List Triple → List (List ℕ) → Tree → List Places
evaluation triples names (block ps) = map (kept (variables names)) (solutions triples ps (unbound names))
evaluation triples names empty = unbound names ∷ []
evaluation triples names (join a b) = rows.joined (evaluation triples names a) (evaluation triples names b)
evaluation triples names (optional a b) = rows.optional (evaluation triples names a) (evaluation triples names b)
evaluation triples names (union a b) = evaluation triples names a ++ evaluation triples names b

abbrev pub marked : List ℕ → List Bool → List Bool
marked [] flags = flags
marked (k ∷ ks) flags = marked ks (slice_set flags k true)

-- for each name whether it is selected
abbrev pub selection : List (List ℕ) → List ℕ → List Bool
selection names selected = marked selected (replicate (length names) false)

-- each row once, where that is asked for
abbrev pub once_if : Bool → List Places → List Places
once_if distinct all = if distinct then rows.once all else all

-- the rows cut to the selected names; with DISTINCT each once
abbrev pub shown : GroupData → List Places → List Places
shown g all = once_if g.distinct (map (kept (selection g.names g.selected)) all)

abbrev pub answers : List Triple → GroupData → List Places
answers triples g = shown g (evaluation triples g.names (group_tree g))
