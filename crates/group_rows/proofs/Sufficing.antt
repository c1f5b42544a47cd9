-- The solutions of the blocks, in any order, give the answers in some order.
use Rattle.std.proofs.Common.{ℕ, Bool, true, false, List, [], ◌∷◌, ◌++◌, length, drop, map}
use Rattle.std.specs.List.Sorted.{IsPermutation}
use Rattle.std.proofs.lemmas.List.Sorted.{IsPermutation-refl, IsPermutation-map, IsPermutation-append}
use Rattle.rdf_terms.specs.declared.term.Triple.{Triple}
use Rattle.bgp_core.specs.declared.pattern.Pattern.{Pattern}
use Rattle.bgp_core.specs.Solutions.{Places}
use Rattle.bgp_core.specs.Merging.{kept}
use Rattle.row_algebra.specs.Algebra.{OrderIsFree}
use Rattle.group_query.specs.Trees.{Tree, block, empty, join, optional, union, blocks_of, group_tree}
use Rattle.group_rows.specs.Evaluation.{unbound, variables, evaluation, selection, once_if}
use Rattle.group_rows.specs.Gathering.{AreSolutions, SolutionsSuffice, behind, gathered}

module _ (free : OrderIsFree) (triples : List Triple) (names : List (List ℕ)) where
  front_solved : (xs ys : List (List Pattern)) (blocks : List (List Places)) → AreSolutions triples names (xs ++ ys) blocks → AreSolutions triples names xs blocks
  front_solved [] ys blocks h = tt
  front_solved (x ∷ xs) ys [] h = h
  front_solved (x ∷ xs) ys (b ∷ bs) h = (h.0, front_solved xs ys bs h.1)

  back_solved : (xs ys : List (List Pattern)) (blocks : List (List Places)) → AreSolutions triples names (xs ++ ys) blocks → AreSolutions triples names ys (drop (length xs) blocks)
  back_solved [] ys blocks h = h
  back_solved (x ∷ xs) ys [] h = absurd h
  back_solved (x ∷ xs) ys (b ∷ bs) h = back_solved xs ys bs h.1

  solved : (t : Tree) (blocks : List (List Places)) → AreSolutions triples names (blocks_of t) blocks → IsPermutation (evaluation triples names t) (gathered names t blocks)
  solved (block ps) [] h = absurd h
  solved (block ps) (b ∷ bs) h = IsPermutation-map (kept (variables names)) _ b h.0
  solved empty blocks h = IsPermutation-refl (unbound names ∷ [])
  solved (join a b) blocks h =
      free.joins (evaluation triples names a) (gathered names a blocks) (evaluation triples names b) (gathered names b (behind a blocks))
      (solved a blocks (front_solved (blocks_of a) (blocks_of b) blocks h)) (solved b (behind a blocks) (back_solved (blocks_of a) (blocks_of b) blocks h))
  solved (optional a b) blocks h =
      free.optionals (evaluation triples names a) (gathered names a blocks) (evaluation triples names b) (gathered names b (behind a blocks))
      (solved a blocks (front_solved (blocks_of a) (blocks_of b) blocks h)) (solved b (behind a blocks) (back_solved (blocks_of a) (blocks_of b) blocks h))
  solved (union a b) blocks h =
      IsPermutation-append (evaluation triples names a) (gathered names a blocks) (evaluation triples names b) (gathered names b (behind a blocks))
      (solved a blocks (front_solved (blocks_of a) (blocks_of b) blocks h)) (solved b (behind a blocks) (back_solved (blocks_of a) (blocks_of b) blocks h))

once_order : (free : OrderIsFree) (distinct : Bool) (a b : List Places) → IsPermutation a b → IsPermutation (once_if distinct a) (once_if distinct b)
once_order free true a b h = free.onces a b h
once_order free false a b h = h

pub suffice : OrderIsFree → SolutionsSuffice
suffice free triples g blocks h =
    once_order free g.distinct (map (kept (selection g.names g.selected)) (evaluation triples g.names (group_tree g))) (map (kept (selection g.names g.selected)) (gathered g.names (group_tree g) blocks))
    (IsPermutation-map (kept (selection g.names g.selected)) (evaluation triples g.names (group_tree g)) (gathered g.names (group_tree g) blocks) (solved free triples g.names (group_tree g) blocks h))
