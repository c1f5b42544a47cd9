-- Rows that are cut bind the names alone that are kept.
use Rattle.std.proofs.Common.{ℕ, zero, suc, ◌≡◌, ◌<◌, ◌⊎◌, inl, inr, Bool, true, false, List, [], ◌∷◌, length, get_or, map, Option, Some, replicate, refl, ap, sym, subst, ◌∙◌, arith}
use Rattle.std.proofs.Math.ListN.{set, length-set, length-replicate}
use Rattle.std.proofs.lemmas.List.{get_or-set_other, get_or-replicate}
use Rattle.std.proofs.lemmas.Bool.{cases_eq, false≢true}
use Rattle.std.specs.List.{AllByRecursion, Contains, list_all}
use Rattle.list_laws.proofs.Each.{all_map, all_so}
use Rattle.list_laws.proofs.Members.{at_head, in_tail}
use Rattle.list_laws.proofs.Options.{none_not_some}
use Rattle.list_laws.proofs.Lists.{cons_same}
use Rattle.rdf_terms.specs.declared.term.Term.{Term}
use Rattle.bgp_core.specs.Solutions.{Places, term_at}
use Rattle.bgp_core.specs.Merging.{kept, if_kept}
use Rattle.bgp_core.proofs.Merging.{kept_at}
use Rattle.row_algebra.specs.Algebra.{BindsOnly}
use Rattle.group_rows.specs.Evaluation.{marked, selection}
use Rattle.row_algebra.specs.Algebra.{HaveWidth}
use Rattle.group_rows.proofs.Widths.{cut_width}

-- ---- rows of which all is kept

pub kept_whole : (flags : List Bool) (r : Places) → list_all (λ flag. flag) flags ≡ true → kept flags r ≡ r
kept_whole [] r h = refl
kept_whole (b ∷ flags) [] h = refl
kept_whole (true ∷ flags) (o ∷ r) h = ap (λ (l : Places). o ∷ l) (kept_whole flags r h)
kept_whole (false ∷ flags) (o ∷ r) h = absurd (false≢true h)

pub cut_whole : (flags : List Bool) (rows : List Places) → list_all (λ flag. flag) flags ≡ true → rows ≡ map (kept flags) rows
cut_whole flags [] h = refl
cut_whole flags (r ∷ rows) h = sym (cons_same (kept flags r) r (map (kept flags) rows) rows (kept_whole flags r h) (sym (cut_whole flags rows h)))

-- ---- the names that a cut row binds

bound_within : (r : Places) (n : ℕ) (t : Term) → term_at r n ≡ Some t → n < length r
bound_within [] n t e = absurd (none_not_some e)
bound_within (o ∷ r) zero t e = omega arith
bound_within (o ∷ r) (suc n) t e = let h : n < length r = bound_within r n t e in omega (arith, h)

kept_bound : (b : Bool) (o : Option Term) (t : Term) → if_kept b o ≡ Some t → (b ≡ true) × (o ≡ Some t)
kept_bound true o t e = (refl, e)
kept_bound false o t e = absurd (none_not_some e)

marked_at : (ks : List ℕ) (flags : List Bool) (n : ℕ) → get_or (marked ks flags) n true ≡ true → n < length flags → Contains ks n ⊎ (get_or flags n true ≡ true)
marked_at [] flags n e h = inr e
marked_at (k ∷ ks) flags n e h = more (marked_at ks (set flags k true) n e (omega (arith, h, length-set flags k true)))
  where
    here : (n ≡ k) ⊎ (n ≡ k → ⊥) → get_or (set flags k true) n true ≡ true → Contains (k ∷ ks) n ⊎ (get_or flags n true ≡ true)
    here (inl is) f = inl (subst (Contains (k ∷ ks)) (sym is) (at_head k ks))
    here (inr apart) f = inr (sym (get_or-set_other flags k n true true apart) ∙ f)

    more : Contains ks n ⊎ (get_or (set flags k true) n true ≡ true) → Contains (k ∷ ks) n ⊎ (get_or flags n true ≡ true)
    more (inl c) = inl (in_tail k n ks c)
    more (inr f) = here (cases_eq n k) f

selects_only : (names : List (List ℕ)) (selected : List ℕ) (row : Places) → length names ≡ length row → BindsOnly selected (kept (selection names selected) row)
selects_only names selected row long n (t, e) =
    let parts = kept_bound (get_or (selection names selected) n true) (term_at row n) t (sym (kept_at (selection names selected) row n) ∙ e) in
    let below : n < length names = omega (arith, bound_within row n t parts.1, long) in
    chosen below (marked_at selected (replicate (length names) false) n parts.0 (omega (arith, below, length-replicate (length names) false)))
  where
    chosen : n < length names → Contains selected n ⊎ (get_or (replicate (length names) false) n true ≡ true) → Contains selected n
    chosen below (inl c) = c
    chosen below (inr f) = absurd (false≢true (sym (get_or-replicate (length names) n false true below) ∙ f))

cut_selects : (names : List (List ℕ)) (selected : List ℕ) (rows : List Places) → HaveWidth (length names) rows → AllByRecursion (BindsOnly selected) (map (kept (selection names selected)) rows)
cut_selects names selected rows h =
    all_map (kept (selection names selected)) (BindsOnly selected) rows
    (all_so (λ row. length names ≡ length row) (λ row. BindsOnly selected (kept (selection names selected) row)) (λ row e. selects_only names selected row e) rows h)

-- ---- rows that are cut to what is selected

pub cut_to : (names : List (List ℕ)) (selected : List ℕ) (flags given : List Bool) (rows out : List Places) → flags ≡ selection names selected → given ≡ flags → out ≡ map (kept given) rows → out ≡ map (kept (selection names selected)) rows
cut_to names selected flags given rows out d e f = f ∙ ap (λ (l : List Bool). map (kept l) rows) (e ∙ d)

pub cut_to_width : (names : List (List ℕ)) (selected : List ℕ) (rows out : List Places) → HaveWidth (length names) rows → out ≡ map (kept (selection names selected)) rows → HaveWidth (length names) out
cut_to_width names selected rows out h e = subst (λ (l : List Places). HaveWidth (length names) l) (sym e) (cut_width (length names) (selection names selected) rows h)

pub cut_to_names : (names : List (List ℕ)) (selected only : List ℕ) (rows out : List Places) → HaveWidth (length names) rows → out ≡ map (kept (selection names selected)) rows → only ≡ selected → AllByRecursion (BindsOnly only) out
cut_to_names names selected only rows out h e f =
    subst (λ (l : List ℕ). AllByRecursion (BindsOnly l) out) (sym f)
    (subst (λ (l : List Places). AllByRecursion (BindsOnly selected) l) (sym e) (cut_selects names selected rows h))
