-- A map of texts as an ordered map of their bytes.
use Rattle.std.proofs.Common.{ℕ, ◌≡◌, List, [], ◌∷◌, length, map, refl, sym, ap, ◌∙◌, arith}
use Rattle.std.specs.FinMap.{entries, values, entries-insert, len-entries, len-empty}
use Rattle.std.specs.FinMap.Entries.{by_order, put}
use Rattle.std.specs.BTreeMap.{insert_entry}
use Rattle.std.specs.Ordering.{match_ordering}
use Rattle.std.specs.Cmp.Lexicographic.{nat_list_cmp_total}
use Rattle.std.specs.declared.cmp.Ordering.{Ordering}
use Rattle.std.specs.declared.cmp.Ordering.TheVariants.{Less, Equal, Greater}
use Rattle.rdf_terms.specs.Order.{bytes_order}
use Rattle.result_json.specs.Results.{name_at, first_numbers}

nothing : (es : List (List ℕ × ℕ)) → length es ≡ 0 → es ≡ []
nothing [] e = refl
nothing (x ∷ es) e = absurd (omega (arith, e))

-- no number, no column
pub none : (names : List (List ℕ)) → entries (first_numbers names []) ≡ []
none names = nothing (entries (first_numbers names [])) (sym (len-entries (first_numbers names [])) ∙ len-empty bytes_order ℕ)

module _ {K : Type 0} (text : K → List ℕ) where
  abbrev pub seen : List (K × ℕ) → List (List ℕ × ℕ)
  seen es = map (λ e. (text e.0, e.1)) es

  abbrev pub order : K → K → Ordering
  order a b = bytes_order (text a) (text b)

  turned : (o : Ordering) (a b c : List (K × ℕ)) → seen (match_ordering o a b c) ≡ by_order o (seen a) (seen b) (seen c)
  turned Less a b c = refl
  turned Equal a b c = refl
  turned Greater a b c = refl

  inserted : (k : K) (n : ℕ) (es : List (K × ℕ)) → seen (insert_entry order es k n) ≡ put bytes_order (text k) n (seen es)
  inserted k n [] = refl
  inserted k n (e ∷ es) =
      turned (order k e.0) ((k, n) ∷ e ∷ es) ((e.0, n) ∷ es) (e ∷ insert_entry order es k n)
      ∙ ap (λ (rest : List (List ℕ × ℕ)). by_order (order k e.0) ((text k, n) ∷ seen (e ∷ es)) ((text e.0, n) ∷ seen es) ((text e.0, e.1) ∷ rest)) (inserted k n es)

  -- one more number before the others
  pub one_before : (names : List (List ℕ)) (n : ℕ) (ns : List ℕ) (k : K) (es fs : List (K × ℕ)) → text k ≡ name_at names n → seen es ≡ entries (first_numbers names ns) → fs ≡ insert_entry order es k n → seen fs ≡ entries (first_numbers names (n ∷ ns))
  one_before names n ns k es fs name before is =
      ap seen is ∙ inserted k n es
      ∙ ap (λ (t : List ℕ). put bytes_order t n (seen es)) name
      ∙ ap (λ (rest : List (List ℕ × ℕ)). put bytes_order (name_at names n) n rest) before
      ∙ sym (entries-insert nat_list_cmp_total (first_numbers names ns) (name_at names n) n)

  -- the numbers are the columns
  pub numbers : (names : List (List ℕ)) (ns : List ℕ) (es : List (K × ℕ)) → seen es ≡ entries (first_numbers names ns) → map (λ e. e.1) es ≡ values (first_numbers names ns)
  numbers names ns es is = sym (seconds es) ∙ ap (λ (l : List (List ℕ × ℕ)). map (λ e. e.1) l) is
    where
      seconds : (l : List (K × ℕ)) → map (λ e. e.1) (seen l) ≡ map (λ e. e.1) l
      seconds [] = refl
      seconds (e ∷ l) = ap (λ (rest : List ℕ). e.1 ∷ rest) (seconds l)
