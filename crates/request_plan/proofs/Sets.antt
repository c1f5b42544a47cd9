-- Sets of triples, and the rounds of several forms.
use Rattle.std.proofs.Common.{◌≡◌, Bool, true, false, List, [], ◌∷◌, ◌++◌, refl, ap, sym, ◌∙◌}
use Rattle.std.specs.List.{list_any}
use Rattle.std.specs.BTreeMap.{is_at}
use Rattle.std.specs.BTreeSet.{insert_key}
use Rattle.std.specs.Ordering.{is_eq, match_ordering}
use Rattle.std.specs.declared.cmp.Ordering.{Ordering}
use Rattle.std.specs.declared.cmp.Ordering.TheVariants.{Less, Equal, Greater}
use Rattle.list_laws.proofs.Ascending.{is_equal}
use Rattle.rdf_terms.specs.declared.term.Triple.{Triple}
use Rattle.rdf_terms.specs.Selections.{Selection}
use Rattle.rdf_terms.specs.Fragments.{put_by, put}
use Rattle.rdf_terms.specs.Order.{triple_order}
use Rattle.rdf_terms.specs.OrderLaws.{triple_equal, triple_ties}
use Rattle.rdf_terms.specs.Same.{triple_eq}
use Rattle.tpf_base.specs.Addresses.{Address, IsAddress}
use Rattle.template_fill.specs.declared.form.Form.{Form}
use Rattle.template_fill.specs.Authorities.{ShareAuthority}
use Rattle.template_fill.specs.Forms.{selection_form_text}
use Rattle.request_plan.specs.Rounds.{AreFirst, ShareForms}

-- ---- a set and its list

pub insert-put : (t : Triple) (xs : List Triple) → insert_key triple_order xs t ≡ put triple_order t xs
insert-put t [] = refl
insert-put t (y ∷ ys) = by (triple_order t y) (insert-put t ys) where
  by : (o : Ordering) → insert_key triple_order ys t ≡ put triple_order t ys → match_ordering o (t ∷ y ∷ ys) (y ∷ ys) (y ∷ insert_key triple_order ys t) ≡ put_by o t y ys (put triple_order t ys)
  by Less e = refl
  by Equal e = refl
  by Greater e = ap (λ l. y ∷ l) e

same-eq : (t k : Triple) → t ≡ k → triple_eq k t ≡ true
same-eq t k e = triple_ties k t ∙ ap is_eq ((triple_equal k t).1 (sym e))

-- it does not matter which of the two is compared with the other
turned : (t k : Triple) → is_eq (triple_order t k) ≡ triple_eq k t
turned t k = by (is_eq (triple_order t k)) (triple_eq k t) refl refl where
  by : (a b : Bool) → is_eq (triple_order t k) ≡ a → triple_eq k t ≡ b → a ≡ b
  by true true e f = refl
  by false false e f = refl
  by true false e f = let same = same-eq t k ((triple_equal t k).0 (is_equal (triple_order t k) e)) in cc
  by false true e f =
      let same : k ≡ t = (triple_equal k t).0 (is_equal (triple_order k t) (sym (triple_ties k t) ∙ f)) in
      let one : is_eq (triple_order t k) ≡ true = ap is_eq ((triple_equal t k).1 (sym same)) in cc

pub any-turned : (t : Triple) (xs : List Triple) → list_any (is_at (triple_order t)) xs ≡ list_any (λ other. triple_eq other t) xs
any-turned t [] = refl
any-turned t (x ∷ xs) = rw (turned t x, any-turned t xs) refl

-- ---- the rounds of several forms

pub first-more : (forms : List Form) (s : Selection) (addresses : List Address) (form : Form) (address : Address) → AreFirst forms s addresses → IsAddress (selection_form_text form s) address → AreFirst (forms ++ form ∷ []) s (addresses ++ address ∷ [])
first-more [] s [] form address h is = (is, tt)
first-more [] s (a ∷ more) form address h is = absurd h
first-more (f ∷ fs) s [] form address h is = absurd h
first-more (f ∷ fs) s (a ∷ more) form address h is = (h.0, first-more fs s more form address h.1 is)

pub shared-more : (forms : List Form) (addresses : List Address) (form : Form) (address : Address) → ShareForms forms addresses → ShareAuthority form.template.start address → ShareForms (forms ++ form ∷ []) (addresses ++ address ∷ [])
shared-more [] [] form address h is = (is, tt)
shared-more [] (a ∷ more) form address h is = absurd h
shared-more (f ∷ fs) [] form address h is = absurd h
shared-more (f ∷ fs) (a ∷ more) form address h is = (h.0, shared-more fs more form address h.1 is)
