-- How many objects there are.
use Rattle.std.proofs.Common.{ℕ, ◌≡◌, ◌≤◌, List, [], ◌∷◌, refl, sym, ap, subst, ◌∙◌, length, get_or, arith, ⊎_elim, inl, inr}
use Rattle.std.specs.Prelude.{◌↔◌}
use Rattle.std.specs.Borrow.{Bor}
use Rattle.std.specs.List.{Contains}
use Rattle.std.specs.List.Sorted.{IsStrictlySortedBy}
use Rattle.std.specs.declared.cmp.Ordering.TheVariants.{Equal}
use Rattle.std.proofs.lemmas.Cmp.{tied_itself}
use Rattle.list_laws.proofs.Ascending.{less_not_equal}
use Rattle.list_laws.proofs.Members.{at_head, head_or_tail, in_tail, none_in}
use Rattle.rdf_terms.specs.declared.term.Term.{Term}
use Rattle.rdf_terms.specs.declared.term.Triple.{Triple}
use Rattle.rdf_terms.specs.declared.term.Term.TheVariants.{Iri}
use Rattle.rdf_terms.specs.declared.term.Quad.{Quad}
use Rattle.tpf_base.specs.Addresses.{Address, IsAddress, authority_of}
use Rattle.template_fill.proofs.Reading.{one_address}
use Rattle.fragment_page.specs.declared.page.PageFault.{PageFault}
use Rattle.fragment_page.specs.declared.page.PageFault.TheVariants.{ForeignLink}
use Rattle.control_triples.specs.Vocabulary.{total_items, void_triples}
use Rattle.control_triples.specs.Controls.{IsOnly, HasTwo, Says, IsCountObject, IsNextObject, IsLink}
use Rattle.page_controls.specs.Counts.{WhyNoNext, IsNoLink}
use Rattle.page_controls.specs.Outcomes.{IsFaultOf}
use Rattle.control_triples.specs.Ranges.{length_order}
use Rattle.control_triples.specs.LengthLaws.{length_total}
use Rattle.control_triples.proofs.Only.{only_not_two}
use Rattle.control_triples.specs.Parts.{objects_in}

module _ (P : Term → Type 0) where
  pub none_of : (xs : List (Bor Triple)) → length xs ≡ 0 → ((o : Term) → Contains (objects_in xs) o ↔ P o) → (o : Term) → P o → ⊥
  none_of [] e m o p = none_in o ((m o).1 p)
  none_of (x ∷ xs) e m o p = absurd (omega arith)

  pub only_of : (xs : List (Bor Triple)) (d : Bor Triple) → length xs ≡ 1 → ((o : Term) → Contains (objects_in xs) o ↔ P o) → IsOnly P (get_or xs 0 d).now.object
  only_of [] d e m = absurd (omega arith)
  only_of (x ∷ []) d e m = ((m x.now.object).0 (at_head x.now.object []), λ o p. ⊎_elim (λ s. sym s) (λ t. absurd (none_in o t)) (head_or_tail x.now.object o [] ((m o).1 p)))
  only_of (x ∷ y ∷ xs) d e m = absurd (omega arith)

  pub two_of : (xs : List (Bor Triple)) → 2 ≤ length xs → IsStrictlySortedBy length_order (objects_in xs) → ((o : Term) → Contains (objects_in xs) o ↔ P o) → HasTwo P
  unfolding IsStrictlySortedBy
  two_of [] e s m = absurd (omega arith)
  two_of (x ∷ []) e s m = absurd (omega arith)
  two_of (x ∷ y ∷ xs) e s m = (
    x.now.object,
    y.now.object,
    (m x.now.object).0 (at_head x.now.object (objects_in (y ∷ xs))),
    (m y.now.object).0 (in_tail x.now.object y.now.object (objects_in (y ∷ xs)) (at_head y.now.object (objects_in xs))),
    λ same. less_not_equal (sym s.0.0 ∙ subst (λ (o : Term). length_order x.now.object o ≡ Equal) same (tied_itself length_total x.now.object)),
  )

-- ---- the count

pub total_first : (quads : List Quad) (topic : List ℕ) (xs : List (Bor Triple)) → (length xs ≡ 0 → ⊥) → ((o : Term) → Contains (objects_in xs) o ↔ Says quads topic (Iri topic) total_items o) → (o : Term) → Contains (objects_in xs) o ↔ IsCountObject quads topic o
total_first quads topic [] some m o = absurd (some refl)
total_first quads topic (x ∷ xs) some m o = ((λ h. inl ((m o).0 h)), back)
  where
    back : IsCountObject quads topic o → Contains (objects_in (x ∷ xs)) o
    back (inl h) = (m o).1 h
    back (inr h) = absurd (h.0 x.now.object ((m x.now.object).0 (at_head x.now.object (objects_in xs))))

pub void_second : (quads : List Quad) (topic : List ℕ) (xs ys : List (Bor Triple)) → length xs ≡ 0 → ((o : Term) → Contains (objects_in xs) o ↔ Says quads topic (Iri topic) total_items o) →
    ((o : Term) → Contains (objects_in ys) o ↔ Says quads topic (Iri topic) void_triples o) → (o : Term) → Contains (objects_in ys) o ↔ IsCountObject quads topic o
void_second quads topic xs ys e m n o = ((λ h. inr (none_of (λ o. Says quads topic (Iri topic) total_items o) xs e m, (n o).0 h)), back)
  where
    back : IsCountObject quads topic o → Contains (objects_in ys) o
    back (inl h) = absurd (none_of (λ o. Says quads topic (Iri topic) total_items o) xs e m o h)
    back (inr h) = (n o).1 h.1

module _ (P : Term → Type 0) (xs : List (Bor Triple)) (item : Bor Triple) (one : length xs ≡ 1) (at : item ≡ get_or xs 0 item) (m : (o : Term) → Contains (objects_in xs) o ↔ P o) where
  pub only_item : IsOnly P item.now.object
  only_item = subst (λ (t : Bor Triple). IsOnly P t.now.object) (sym at) (only_of P xs item one m)

-- ---- links

pub no_link : (term : Term) (iri text : List ℕ) (next : Address) (authority : List ℕ) → term ≡ Iri iri → text ≡ iri → IsAddress text next → (authority_of next ≡ authority → ⊥) → IsNoLink authority term
no_link term iri text next authority e f is differs link h same =
    let there : IsAddress iri link = subst (λ (t : Term). IsLink t link) e h in
    differs (ap authority_of (one_address iri next link (subst (λ (t : List ℕ). IsAddress t next) f is) there) ∙ same)

pub next_fault : (quads : List Quad) (topic authority : List ℕ) (object : Term) (fault : PageFault) → IsOnly (IsNextObject quads topic) object → IsFaultOf (λ fault. (fault ≡ ForeignLink) × IsNoLink authority object) fault → IsFaultOf (WhyNoNext quads topic authority) fault
next_fault quads topic authority object fault only (inl e) = inl e
next_fault quads topic authority object fault only (inr h) = inr (inr (h.0, (λ two. only_not_two (IsNextObject quads topic) object only two), (object, only.0, h.1)))
