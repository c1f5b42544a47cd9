-- A query with groups evaluated over the rows that its blocks gave, in the order in which they are written.
use Rattle.std.specs.Prelude.{ℕ, List, [], ◌∷◌, ◌++◌, map, length, drop, ⊤}
use Rattle.std.specs.List.Sorted.{IsPermutation}
use Rattle.rdf_terms.specs.declared.term.Triple.{Triple}
use Rattle.bgp_core.specs.declared.pattern.Pattern.{Pattern}
use Rattle.bgp_core.specs.Solutions.{Places, solutions}
use Rattle.bgp_core.specs.Merging.{kept}
use Rattle.group_query.specs.Trees.{Tree, block, empty, join, optional, union, GroupData, group_tree, blocks_of}
use Rattle.group_rows.specs.Evaluation.{unbound, variables, shown, answers}
use Rattle.row_algebra.specs.Algebra as rows

-- the rows of the first block; none where no block is left
abbrev pub first : List (List Places) → List Places
first [] = []
first (b ∷ bs) = b

-- the lists behind those of the blocks of a group
abbrev pub behind : Tree → List (List Places) → List (List Places)
behind t blocks = drop (length (blocks_of t)) blocks

-- the rows of a group whose blocks, in written order, have these
abbrev pub gathered : List (List ℕ) → Tree → List (List Places) → List Places
gathered names (block ps) blocks = map (kept (variables names)) (first blocks)
gathered names empty blocks = unbound names ∷ []
gathered names (join a b) blocks = rows.joined (gathered names a blocks) (gathered names b (behind a blocks))
gathered names (optional a b) blocks = rows.optional (gathered names a blocks) (gathered names b (behind a blocks))
gathered names (union a b) blocks = gathered names a blocks ++ gathered names b (behind a blocks)

-- the answers of a query whose blocks, in written order, have these rows
abbrev pub gathered_answers : GroupData → List (List Places) → List Places
gathered_answers g blocks = shown g (gathered g.names (group_tree g) blocks)

-- ---- the law

-- the first lists are the solutions of these blocks, each in some order
abbrev pub AreSolutions : List Triple → List (List ℕ) → List (List Pattern) → List (List Places) → Type 0
AreSolutions triples names [] blocks = ⊤
AreSolutions triples names (ps ∷ pss) [] = ⊥
AreSolutions triples names (ps ∷ pss) (b ∷ bs) = IsPermutation (solutions triples ps (unbound names)) b × AreSolutions triples names pss bs

-- what is gathered from the solutions of the blocks are the answers, in some order
abbrev pub SolutionsSuffice : Type 0
SolutionsSuffice = (triples : List Triple) (g : GroupData) (blocks : List (List Places)) → AreSolutions triples g.names (blocks_of (group_tree g)) blocks → IsPermutation (answers triples g) (gathered_answers g blocks)
