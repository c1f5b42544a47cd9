-- Rows keep as many places as names.
use Rattle.std.proofs.Common.{ℕ, ◌≡◌, Bool, true, false, if◌then◌else◌, List, [], ◌∷◌, ◌++◌, length, map, None, sym, subst, ◌∙◌}
use Rattle.std.proofs.Math.ListN.{length-replicate}
use Rattle.std.specs.List.{AllByRecursion}
use Rattle.list_laws.proofs.Each.{all_append, all_so, all_map, all_flat_map}
use Rattle.bgp_core.specs.Solutions.{Places}
use Rattle.bgp_core.specs.Merging.{compatible, merged, kept}
use Rattle.bgp_core.proofs.Merging.{kept_length, merged_length}
use Rattle.row_algebra.specs.Algebra.{merge, merges, or_alone, joined, optional}
use Rattle.group_query.specs.declared.step.Step.{Step}
use Rattle.group_query.specs.declared.step.Step.TheVariants as steps
use Rattle.group_rows.specs.Evaluation.{unbound, variables}
use Rattle.group_rows.specs.Gathering.{first}
use Rattle.group_rows.specs.Stacks.{rest, both, blocks_after, stack_after}
use Rattle.row_algebra.specs.Algebra.{HaveWidth}

module _ (n : ℕ) where
  pub cut_width : (flags : List Bool) (rows : List Places) → HaveWidth n rows → HaveWidth n (map (kept flags) rows)
  cut_width flags rows h = all_map (kept flags) (λ row. n ≡ length row) rows (all_so (λ row. n ≡ length row) (λ row. n ≡ length (kept flags row)) (λ row e. e ∙ sym (kept_length flags row)) rows h)

  merge_by : (b : Bool) (l r : Places) → n ≡ length l → n ≡ length r → HaveWidth n (if b then merged l r ∷ [] else [])
  merge_by true l r e f = (e ∙ sym (merged_length l r (sym e ∙ f)), tt)
  merge_by false l r e f = tt

  merges_width : (right : List Places) (l : Places) → HaveWidth n right → n ≡ length l → HaveWidth n (merges right l)
  merges_width right l h e = all_flat_map (merge l) (λ r. n ≡ length r) (λ r. n ≡ length r) (λ r f. merge_by (compatible l r) l r e f) right h

  alone_width : (l : Places) (rows : List Places) → n ≡ length l → HaveWidth n rows → HaveWidth n (or_alone l rows)
  alone_width l [] e h = (e, tt)
  alone_width l (r ∷ rs) e h = h

  pub joined_width : (a b : List Places) → HaveWidth n a → HaveWidth n b → HaveWidth n (joined a b)
  joined_width a b h g = all_flat_map (merges b) (λ l. n ≡ length l) (λ l. n ≡ length l) (λ l e. merges_width b l g e) a h

  pub optional_width : (a b : List Places) → HaveWidth n a → HaveWidth n b → HaveWidth n (optional a b)
  optional_width a b h g = all_flat_map (λ l. or_alone l (merges b l)) (λ l. n ≡ length l) (λ l. n ≡ length l) (λ l e. alone_width l (merges b l) e (merges_width b l g e)) a h

  pub first_width : (blocks : List (List Places)) → AllByRecursion (HaveWidth n) blocks → HaveWidth n (first blocks)
  first_width [] h = tt
  first_width (b ∷ bs) h = h.0

  rest_width : (blocks : List (List Places)) → AllByRecursion (HaveWidth n) blocks → AllByRecursion (HaveWidth n) (rest blocks)
  rest_width [] h = tt
  rest_width (b ∷ bs) h = h.1

  both_width : (f : List Places → List Places → List Places) → ((a b : List Places) → HaveWidth n a → HaveWidth n b → HaveWidth n (f a b)) → (stack : List (List Places)) → AllByRecursion (HaveWidth n) stack → AllByRecursion (HaveWidth n) (both f stack)
  both_width f keeps [] h = tt
  both_width f keeps (b ∷ []) h = tt
  both_width f keeps (b ∷ a ∷ stack) h = (keeps a b h.1.0 h.0, h.1.1)

pub unbound_width : (names : List (List ℕ)) → length names ≡ length (unbound names)
unbound_width names = sym (length-replicate (length names) None)

blocks_width : (n : ℕ) (s : Step) (blocks : List (List Places)) → AllByRecursion (HaveWidth n) blocks → AllByRecursion (HaveWidth n) (blocks_after s blocks)
blocks_width n (steps.Block ps) blocks h = rest_width n blocks h
blocks_width n steps.Empty blocks h = h
blocks_width n steps.Join blocks h = h
blocks_width n steps.Optional blocks h = h
blocks_width n steps.Union blocks h = h

stack_width : (names : List (List ℕ)) (s : Step) (blocks stack : List (List Places)) → AllByRecursion (HaveWidth (length names)) blocks → AllByRecursion (HaveWidth (length names)) stack → AllByRecursion (HaveWidth (length names)) (stack_after names s blocks stack)
stack_width names (steps.Block ps) blocks stack h g = (cut_width (length names) (variables names) (first blocks) (first_width (length names) blocks h), g)
stack_width names steps.Empty blocks stack h g = ((unbound_width names, tt), g)
stack_width names steps.Join blocks stack h g = both_width (length names) joined (joined_width (length names)) stack g
stack_width names steps.Optional blocks stack h g = both_width (length names) optional (optional_width (length names)) stack g
stack_width names steps.Union blocks stack h g = both_width (length names) (λ a b. a ++ b) (λ a b. all_append (λ row. length names ≡ length row) a b) stack g

-- lists that stand for those after a step
pub blocks_keep : (n : ℕ) (s : Step) (blocks next : List (List Places)) → AllByRecursion (HaveWidth n) blocks → next ≡ blocks_after s blocks → AllByRecursion (HaveWidth n) next
blocks_keep n s blocks next h e = subst (λ (l : List (List Places)). AllByRecursion (HaveWidth n) l) (sym e) (blocks_width n s blocks h)

pub stack_keeps : (names : List (List ℕ)) (s : Step) (blocks stack next : List (List Places)) → AllByRecursion (HaveWidth (length names)) blocks → AllByRecursion (HaveWidth (length names)) stack → next ≡ stack_after names s blocks stack → AllByRecursion (HaveWidth (length names)) next
stack_keeps names s blocks stack next h g e = subst (λ (l : List (List Places)). AllByRecursion (HaveWidth (length names)) l) (sym e) (stack_width names s blocks stack h g)
