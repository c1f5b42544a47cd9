-- The rows of a group keep as many places as names.
use Rattle.std.proofs.Common.{ℕ, zero, suc, ◌≡◌, List, [], ◌∷◌, length, drop, sym, subst}
use Rattle.std.specs.List.{AllByRecursion}
use Rattle.list_laws.proofs.Each.{all_append}
use Rattle.bgp_core.specs.Queries.{QueryData}
use Rattle.bgp_core.specs.Solutions.{Places}
use Rattle.row_algebra.specs.Algebra.{HaveWidth}
use Rattle.group_query.specs.Trees.{Tree, block, empty, join, optional, union, blocks_of, GroupData, group_tree, shown_query}
use Rattle.group_rows.specs.Evaluation.{variables}
use Rattle.group_rows.specs.Gathering.{first, behind, gathered}
use Rattle.group_rows.proofs.Widths.{cut_width, first_width, joined_width, optional_width, unbound_width}

dropped_width : (n k : ℕ) (blocks : List (List Places)) → AllByRecursion (HaveWidth n) blocks → AllByRecursion (HaveWidth n) (drop k blocks)
dropped_width n zero [] h = h
dropped_width n zero (b ∷ bs) h = h
dropped_width n (suc k) [] h = h
dropped_width n (suc k) (b ∷ bs) h = dropped_width n k bs h.1

behind_width : (n : ℕ) (t : Tree) (blocks : List (List Places)) → AllByRecursion (HaveWidth n) blocks → AllByRecursion (HaveWidth n) (behind t blocks)
behind_width n t blocks h = dropped_width n (length (blocks_of t)) blocks h

gathered_width : (names : List (List ℕ)) (t : Tree) (blocks : List (List Places)) → AllByRecursion (HaveWidth (length names)) blocks → HaveWidth (length names) (gathered names t blocks)
gathered_width names (block ps) blocks h = cut_width (length names) (variables names) (first blocks) (first_width (length names) blocks h)
gathered_width names empty blocks h = (unbound_width names, tt)
gathered_width names (join a b) blocks h =
    joined_width (length names) (gathered names a blocks) (gathered names b (behind a blocks)) (gathered_width names a blocks h) (gathered_width names b (behind a blocks) (behind_width (length names) a blocks h))
gathered_width names (optional a b) blocks h =
    optional_width (length names) (gathered names a blocks) (gathered names b (behind a blocks)) (gathered_width names a blocks h) (gathered_width names b (behind a blocks) (behind_width (length names) a blocks h))
gathered_width names (union a b) blocks h =
    all_append (λ row. length names ≡ length row) (gathered names a blocks) (gathered names b (behind a blocks)) (gathered_width names a blocks h) (gathered_width names b (behind a blocks) (behind_width (length names) a blocks h))

pub group_width : (g : GroupData) (q : QueryData) (blocks : List (List Places)) (rows : List Places) → AllByRecursion (HaveWidth (length g.names)) blocks → q ≡ shown_query g → rows ≡ gathered g.names (group_tree g) blocks → HaveWidth (length q.names) rows
group_width g q blocks rows h e f =
    subst (λ (x : QueryData). HaveWidth (length x.names) rows) (sym e)
    (subst (λ (l : List Places). HaveWidth (length g.names) l) (sym f) (gathered_width g.names (group_tree g) blocks h))
