-- Forms as they are looked for.
use Rattle.std.proofs.Common.{ℕ, ◌≡◌, ◌+◌, ◌<◌, Bool, true, false, cond, not, ◌&&◌, List, [], refl, sym, ap, subst, ◌∙◌, length, get_or, arith, ltb, Option, Some, None, ⊎_elim}
use Rattle.std.specs.Prelude.{◌↔◌, ◌≢◌, is_some, MatchOption}
use Rattle.std.specs.Borrow.{Bor}
use Rattle.std.specs.List.{Contains, list_any, filter_map}
use Rattle.std.specs.List.Retain.{IsFiltered, DiffersFromLast}
use Rattle.std.specs.List.Sorted.{IsSorted, IsPermutation, IsStrictlySortedBy}
use Rattle.std.specs.Str.{bytes_eq}
use Rattle.std.specs.Option.{option_copied}
use Rattle.std.proofs.lemmas.Slice.Eq.{bytes_eq-Decides}
use Rattle.std.specs.declared.cmp.Ordering.TheVariants.{Less, Equal, Greater}
use Rattle.std.specs.Ordering.{ordering_reverse}
use Rattle.std.proofs.lemmas.Cmp.{tied_itself}
use Rattle.std.proofs.lemmas.Bool.{and_from, and_parts, cases_Bool, not-true}
use Rattle.list_laws.proofs.Ascending.{ascending_unmap, less_not_equal, pair_less}
use Rattle.list_laws.proofs.Members.{Contains-filter_map, Contains-map, any_of, from_filter_map, from_map, some_of}
use Rattle.list_laws.proofs.Places.{any_default}
use Rattle.list_laws.proofs.Tests.{not_both_ways}
use Rattle.rdf_terms.specs.declared.term.Term.{Term}
use Rattle.rdf_terms.specs.declared.term.Triple.{Triple}
use Rattle.rdf_terms.specs.declared.term.Quad.{Quad}
use Rattle.rdf_terms.specs.Same.{term_eq}
use Rattle.rdf_terms.specs.Order.{term_order}
use Rattle.rdf_terms.specs.OrderLaws.{term_total, term_ties}
use Rattle.rdf_terms.specs.EqualityLaws.{term_decides}
use Rattle.rdf_terms.proofs.Equality.{term_same, term_self, same_passes}
use Rattle.control_triples.specs.Vocabulary.{search_form, form_mapping}
use Rattle.control_triples.specs.Controls.{Says, IsOnly, FormTexts, IsLiteral, MapsTo, IsForm, HasNoForm, IsLeastForm}
use Rattle.control_triples.specs.Parts.{borrowed_terms, objects_in, form_of, AreControls, triple}
use Rattle.control_triples.specs.Places.{searched_of, IsSearched, Names, NamesOther, MapsToOther}
use Rattle.control_triples.specs.Variables.{named_all, AreVariables, HasVariable}
use Rattle.control_triples.specs.declared.variable.Variable.{Variable}
use Rattle.control_triples.proofs.Sorted.{from_sorted, in_sorted, sorted_ascends}
use Rattle.control_triples.proofs.Variabled.{literal_form, form_literal}

-- ---- literals among objects

there : (o : Option (List ℕ)) → is_some o ≡ true → (text : List ℕ) × (o ≡ Some text)
there None h = absurd (cc)
there (Some text) h = (text, refl)

is_literal : (o : Term) → is_some (form_of o) ≡ true → (text : List ℕ) × IsLiteral o text
is_literal o h = let r = there (form_of o) h in (r.0, form_literal o r.0 r.1)

literal_is : (o : Term) (text : List ℕ) → IsLiteral o text → is_some (form_of o) ≡ true
literal_is o text h = ap is_some (literal_form o text h)

module _ (P : Term → Type 0) (xs : List Term) (m : (o : Term) → Contains xs o ↔ P o) where
  pub no_literal : list_any (λ o. is_some (form_of o)) xs ≡ false → (literal : Term) → IsOnly (λ o. P o × ((text : List ℕ) × IsLiteral o text)) literal → ⊥
  no_literal none literal h = not_both_ways _ (any_of (λ o. is_some (form_of o)) xs literal ((m literal).1 h.0.0) (literal_is literal h.0.1.0 h.0.1.1)) none

  pub two_literals : (literal : Term) → Contains xs literal → is_some (form_of literal) ≡ true → list_any (λ o. is_some (form_of o) && not (term_eq o literal)) xs ≡ true →
      (other : Term) → IsOnly (λ o. P o × ((text : List ℕ) × IsLiteral o text)) other → ⊥
  two_literals literal h l more other only =
      let r = some_of (λ o. is_some (form_of o) && not (term_eq o literal)) xs more in
      let p = and_parts (is_some (form_of r.0)) (not (term_eq r.0 literal)) r.2 in
      let first = only.1 literal ((m literal).0 h, is_literal literal l) in
      let second = only.1 r.0 ((m r.0).0 r.1, is_literal r.0 p.0) in
      not_both_ways _ (same_passes r.0 literal (second ∙ sym first)) (not-true _ p.1)

  pub one_literal : (literal : Term) → Contains xs literal → is_some (form_of literal) ≡ true → list_any (λ o. is_some (form_of o) && not (term_eq o literal)) xs ≡ false →
      IsOnly (λ o. P o × ((text : List ℕ) × IsLiteral o text)) literal
  one_literal literal h l lacking = (
    ((m literal).0 h, is_literal literal l),
    λ other q. ⊎_elim (λ e. term_same other literal e)
        (λ e. absurd (not_both_ways _ (any_of (λ o. is_some (form_of o) && not (term_eq o literal)) xs other ((m other).1 q.0) (and_from _ _ (literal_is other q.1.0 q.1.1) (ap not e))) lacking)) (cases_Bool (term_eq other literal)),
  )

  -- lacking other object
  pub no_other_object : (object : Term) → list_any (λ o. not (term_eq o object)) xs ≡ false → (o : Term) → P o → o ≡ object
  no_other_object object lacking o p = same (term_eq o object) refl
    where
      same : (b : Bool) → term_eq o object ≡ b → o ≡ object
      same true e = term_same o object e
      same false e = absurd (not_both_ways _ (any_of (λ o. not (term_eq o object)) xs o ((m o).1 p) (ap not e)) lacking)

  pub other_object : (object : Term) → list_any (λ o. not (term_eq o object)) xs ≡ true → ((o : Term) → P o → o ≡ object) → ⊥
  other_object object more all =
      let r = some_of (λ o. not (term_eq o object)) xs more in
      not_both_ways _ (same_passes r.0 object (all r.0 ((m r.0).0 r.1))) (not-true _ r.2)

pub template_is : (r : Option (Bor (List ℕ))) (literal : Term) (Q : Term → Type 0) → option_copied r ≡ form_of literal → is_some (form_of literal) ≡ true → IsOnly Q literal →
    MatchOption r ((l : Term) → IsOnly Q l → ⊥) (λ text. (l : Term) × IsOnly Q l × IsLiteral l text.now)
template_is None literal Q e h only = absurd (not_both_ways (is_some (form_of literal)) h (ap is_some (sym e)))
template_is (Some text) literal Q e h only = (literal, only, form_literal literal text.now (sym e))

pub match_map : {X A A' : Type 0} {B B' : X → Type 0} (r : Option X) → MatchOption r A B → (A → A') → ((x : X) → B x → B' x) → MatchOption r A' B'
match_map None h f g = f h
match_map (Some x) h f g = g x h

-- ---- texts of variables

pub texts_are : (quads : List Quad) (topic : List ℕ) (mapping : Term) (ys zs : List Variable) (texts : List (List ℕ)) → ys ≡ zs → AreVariables quads topic (named_all zs) →
    ((text : List ℕ) → Contains texts text ↔ Contains (named_all ys) (record { mapping = mapping; text = text })) → (text : List ℕ) → Contains texts text ↔ HasVariable quads topic mapping text
texts_are quads topic mapping ys zs texts e are m text = (
  (λ h. (are.members mapping text).0 (subst (λ (l : List Variable). Contains (named_all l) (record { mapping = mapping; text = text })) e ((m text).0 h))),
  (λ h. (m text).1 (subst (λ (l : List Variable). Contains (named_all l) (record { mapping = mapping; text = text })) (sym e) ((are.members mapping text).1 h))),
)

module _ (P : List ℕ → Type 0) (xs : List (List ℕ)) (m : (t : List ℕ) → Contains xs t ↔ P t) (text : List ℕ) where
  pub other_text : list_any (λ t. not (bytes_eq t text)) xs ≡ true → (other : List ℕ) × P other × (other ≢ text)
  other_text more =
      let r = some_of (λ t. not (bytes_eq t text)) xs more in
      (r.0, (m r.0).0 r.1, λ e. not_both_ways _ ((bytes_eq-Decides r.0 text).1 e) (not-true _ r.2))

  pub text_other : (other : List ℕ) → P other → other ≢ text → list_any (λ t. not (bytes_eq t text)) xs ≡ true
  text_other other p differs = by (bytes_eq other text) refl
    where
      by : (b : Bool) → bytes_eq other text ≡ b → list_any (λ t. not (bytes_eq t text)) xs ≡ true
      by true e = absurd (differs ((bytes_eq-Decides other text).0 e))
      by false e = any_of (λ t. not (bytes_eq t text)) xs other ((m other).1 p) (ap not e)

-- one text is the only one where there is no other
pub only_text : (P : List ℕ → Type 0) (text : List ℕ) → P text → (((other : List ℕ) × P other × (other ≢ text)) → ⊥) → IsOnly P text
only_text P text h lacking = (
  h,
  λ other p. ⊎_elim (λ e. (bytes_eq-Decides other text).0 e) (λ e. absurd (lacking (other, p, λ same. not_both_ways _ ((bytes_eq-Decides other text).1 same) e))) (cases_Bool (bytes_eq other text)),
)

pub two_texts : (P : List ℕ → Type 0) (text : List ℕ) → P text → ((other : List ℕ) × P other × (other ≢ text)) → (only : List ℕ) → IsOnly P only → ⊥
two_texts P text h two only o = two.2 (o.1 two.0 two.1 ∙ sym (o.1 text h))

-- ---- mappings

pub maps : (quads : List Quad) (topic : List ℕ) (node property mapping : Term) (text : List ℕ) → Says quads topic node form_mapping mapping → Names quads topic mapping property text → MapsTo quads topic node property text
maps quads topic node property mapping text is_mapping names = record {
  mapping = mapping;
  variable = names.1.0;
  is_mapping = is_mapping;
  has_property = names.0;
  has_variable = names.1.1;
  is_text = names.1.2;
}

pub names_of : (quads : List Quad) (topic : List ℕ) (node property : Term) (text : List ℕ) (h : MapsTo quads topic node property text) → Names quads topic h.mapping property text
names_of quads topic node property text h = (h.has_property, (h.variable, h.has_variable, h.is_text))

module _ (quads : List Quad) (topic : List ℕ) (node property : Term) (xs : List (Bor Triple)) (m : (o : Term) → Contains (objects_in xs) o ↔ Says quads topic node form_mapping o) where
  at_index : (mapping : Term) → Says quads topic node form_mapping mapping → (k : ℕ) × (d : Bor Triple) × (k < length xs) × ((get_or xs k d).now.object ≡ mapping)
  at_index mapping h =
      let found = from_map (λ (t : Bor Triple). t.now.object) xs mapping ((m mapping).1 h) in
      (found.1.0, found.0, found.1.1, ap (λ (t : Bor Triple). t.now.object) found.1.2 ∙ found.2)

  -- every mapping was passed, and none of them has a variable
  pub no_variable : ((k : ℕ) (d : Bor Triple) → k < length xs → (text : List ℕ) → Names quads topic (get_or xs k d).now.object property text → ⊥) → (text : List ℕ) → MapsTo quads topic node property text → ⊥
  no_variable none text h =
      let r = at_index h.mapping h.is_mapping in
      none r.0 r.1 r.2 text (subst (λ (o : Term). Names quads topic o property text) (sym r.3) (names_of quads topic node property text h))

  pub no_other_variable : (text : List ℕ) → ((k : ℕ) (d : Bor Triple) → k < length xs → NamesOther quads topic (get_or xs k d).now.object property text → ⊥) → MapsToOther quads topic node property text → ⊥
  no_other_variable text none h =
      let r = at_index h.1.mapping h.1.is_mapping in
      none r.0 r.1 r.2 (h.0, subst (λ (o : Term). Names quads topic o property h.0) (sym r.3) (names_of quads topic node property h.0 h.1), h.2)

-- ---- nodes

searched_by : (t : Triple) (node : Term) → searched_of t ≡ Some node → (t.predicate ≡ search_form) × (t.object ≡ node)
searched_by t node h = by (term_eq t.predicate search_form) refl h
  where
    some_same : (a b : Term) → ◌≡◌ {A = Option Term} (Some a) (Some b) → a ≡ b
    some_same a b e = cc

    by : (b : Bool) → term_eq t.predicate search_form ≡ b → cond b (Some t.object) None ≡ Some node → (t.predicate ≡ search_form) × (t.object ≡ node)
    by true e h = (term_same _ _ e, some_same _ _ h)
    by false e h = absurd (cc)

pub are_searched : (quads : List Quad) (topic : List ℕ) (triples : List Triple) (xs ys zs : List (Bor Term)) → AreControls quads topic triples → borrowed_terms xs ≡ filter_map searched_of triples → IsPermutation xs ys →
    IsFiltered (DiffersFromLast (λ (x y : Bor Term). term_eq x.now y.now)) [] ys zs → (node : Term) → Contains (borrowed_terms zs) node ↔ IsSearched quads topic node
are_searched quads topic triples xs ys zs are listed moved kept node = (
  (λ h.
      let r = from_filter_map searched_of triples node (from_sorted (λ (t : Bor Term). t.now) term_total (λ x y. term_ties x.now y.now) (λ x y e. (term_decides x.now y.now).0 e) _ xs ys zs listed moved kept node h) in
      let t = r.0 in
      let p = searched_by t node r.2 in
      let same : t ≡ triple t.subject search_form node = λ i. record { subject = t.subject; predicate = p.0 i; object = p.1 i } in
      (t.subject, (are.members t.subject search_form node).0 (subst (λ (x : Triple). Contains triples x) same r.1))),
  (λ h.
      in_sorted (λ (t : Bor Term). t.now) term_total (λ x y. term_ties x.now y.now) (λ x y e. (term_decides x.now y.now).0 e) _ xs ys zs listed moved kept node
      (Contains-filter_map searched_of triples (triple h.0 search_form node) node ((are.members h.0 search_form node).1 h.1) (ap (λ (b : Bool). cond b (Some node) None) (term_self search_form)))),
)

pub searched_ascend : (all : List Term) (xs ys zs : List (Bor Term)) → borrowed_terms xs ≡ all → IsPermutation xs ys → IsFiltered (DiffersFromLast (λ (x y : Bor Term). term_eq x.now y.now)) [] ys zs →
    IsSorted (λ (x y : Bor Term). term_order x.now y.now) ys → IsStrictlySortedBy term_order (borrowed_terms zs)
searched_ascend all xs ys zs listed moved kept s =
    sorted_ascends (λ (t : Bor Term). t.now) term_total (λ x y. term_ties x.now y.now) (λ x y e. (term_decides x.now y.now).0 e) all xs ys zs listed moved kept s

-- ---- the first form

module _ (quads : List Quad) (topic : List ℕ) (nodes : List (Bor Term)) (s : IsStrictlySortedBy term_order (borrowed_terms nodes)) (m : (node : Term) → Contains (borrowed_terms nodes) node ↔ IsSearched quads topic node) where
  node_at : (node : Term) (texts : FormTexts) → IsForm quads topic node texts → (k : ℕ) × (d : Bor Term) × (k < length nodes) × ((get_or nodes k d).now ≡ node)
  node_at node texts h =
      let found = from_map (λ (t : Bor Term). t.now) nodes node ((m node).1 h.searched) in
      (found.1.0, found.0, found.1.1, ap (λ (t : Bor Term). t.now) found.1.2 ∙ found.2)

  pub no_form : ((k : ℕ) (d : Bor Term) → k < length nodes → (texts : FormTexts) → IsForm quads topic (get_or nodes k d).now texts → ⊥) → HasNoForm quads topic
  no_form none node texts h = let r = node_at node texts h in none r.0 r.1 r.2 texts (subst (λ (n : Term). IsForm quads topic n texts) (sym r.3) h)

  pub least_at : (i : ℕ) (item : Bor Term) (texts : FormTexts) → i < length nodes → item ≡ get_or nodes i item → IsForm quads topic item.now texts →
      ((k : ℕ) (d : Bor Term) → k < i → (texts : FormTexts) → IsForm quads topic (get_or nodes k d).now texts → ⊥) → IsLeastForm quads topic texts
  least_at i item texts inside at h none = record {
    node = item.now;
    is_form = h;
    least = λ other more f less. below other more f (node_at other more f) less;
  }
    where
      ascending : IsStrictlySortedBy (λ (x y : Bor Term). term_order x.now y.now) nodes
      ascending = ascending_unmap (λ (t : Bor Term). t.now) term_order nodes s

      below : (other : Term) (more : FormTexts) (f : IsForm quads topic other more) → ((k : ℕ) × (d : Bor Term) × (k < length nodes) × ((get_or nodes k d).now ≡ other)) → term_order other item.now ≡ Less → ⊥
      below other more f r less = by (ltb r.0 i) (ltb i r.0) refl refl
        where
          behind : i < r.0 → term_order item.now other ≡ Less
          behind l =
              subst (λ (x : Term). term_order item.now x ≡ Less) r.3
              (subst (λ (x : Bor Term). term_order x.now (get_or nodes r.0 r.1).now ≡ Less) (sym at) (pair_less (λ (x y : Bor Term). term_order x.now y.now) nodes ascending i r.0 item r.1 l r.2))

          same : r.0 ≡ i → other ≡ item.now
          same e = sym r.3 ∙ ap (λ (x : Bor Term). x.now) (any_default nodes r.0 r.1 item r.2 ∙ ap (λ n. get_or nodes n item) e ∙ sym at)

          by : (a b : Bool) → ltb r.0 i ≡ a → ltb i r.0 ≡ b → ⊥
          by true b e g = none r.0 r.1 (grind (arith, e)) more (subst (λ (n : Term). IsForm quads topic n more) (sym r.3) f)
          by false true e g = let h : Less ≡ Greater = sym (behind (grind (arith, g))) ∙ term_total.antisymm item.now other ∙ ap ordering_reverse less in cc
          by false false e g =
              let here : r.0 ≡ i = grind (arith, e, g) in
              less_not_equal (sym less ∙ subst (λ (x : Term). term_order x item.now ≡ Equal) (sym (same here)) (tied_itself term_total item.now))

-- ---- loops

pub passed_more : {X : Type 0} (P : X → Type 0) (xs : List X) (i : ℕ) (item : X) → i < length xs → item ≡ get_or xs i item → ((k : ℕ) (d : X) → k < i → P (get_or xs k d) → ⊥) → (P item → ⊥) →
    (k : ℕ) (d : X) → k < i + 1 → P (get_or xs k d) → ⊥
passed_more P xs i item inside at before here k d l h = by (ltb k i) refl
  where
    by : (b : Bool) → ltb k i ≡ b → ⊥
    by true e = before k d (grind (arith, e)) h
    by false e =
        let same : k ≡ i = grind (arith, e, l) in
        here (subst P (any_default xs i d item inside ∙ sym at) (subst (λ n. P (get_or xs n d)) same h))

pub item_in : (xs : List (Bor Triple)) (i : ℕ) (item : Bor Triple) → i < length xs → item ≡ get_or xs i item → Contains (objects_in xs) item.now.object
item_in xs i item inside at = Contains-map (λ (t : Bor Triple). t.now.object) xs item (i, inside, sym at)

pub node_in : (xs : List (Bor Term)) (i : ℕ) (item : Bor Term) → i < length xs → item ≡ get_or xs i item → Contains (borrowed_terms xs) item.now
node_in xs i item inside at = Contains-map (λ (t : Bor Term). t.now) xs item (i, inside, sym at)
