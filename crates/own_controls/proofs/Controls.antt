-- What the controls of a page say: its topic, its count, its form and its next page.
use Rattle.std.proofs.Common.{◌≡◌, ◌≢◌, ℕ, ◌≤◌, inl, inr, Bool, true, false, List, [], ◌∷◌, ◌++◌, map, Some, None, refl, sym, ◌∙◌, ap, subst}
use Rattle.std.specs.Prelude.{codes}
use Rattle.std.specs.List.{filter}
use Rattle.std.specs.Str.{bytes_eq}
use Rattle.std.specs.declared.cmp.Ordering.TheVariants.{Less}
use Rattle.std.proofs.lemmas.Cmp.{tied_itself}
use Rattle.std.proofs.lemmas.Slice.Eq.{bytes_eq-Decides}
use Rattle.rdf_terms.specs.EqualityLaws.{same_iri}
use Rattle.list_laws.proofs.Ascending.{less_not_equal}
use Rattle.rdf_terms.specs.declared.term.Term.{Term}
use Rattle.rdf_terms.specs.declared.term.Term.TheVariants.{Iri, Blank}
use Rattle.rdf_terms.specs.declared.term.Triple.{Triple}
use Rattle.rdf_terms.specs.declared.term.Quad.{Quad}
use Rattle.rdf_terms.specs.Order.{term_order}
use Rattle.rdf_terms.specs.OrderLaws.{term_total}
use Rattle.tpf_base.specs.declared.limits.TheConstants.{HIGHEST_NUMBER}
use Rattle.tpf_base.specs.Addresses.{Address, IsAddress, authority_of}
use Rattle.tpf_base.specs.Decimals.{decimal_text}
use Rattle.template_fill.specs.Metadata.{plain, integer}
use Rattle.template_fill.specs.Bodies.{in_default_graph}
use Rattle.control_triples.specs.Vocabulary.{primary_topic, total_items, next_page, search_form, form_template, representation, explicit_representation, form_mapping, mapped_variable, mapped_property, rdf_subject, rdf_predicate, rdf_object, version_info}
use Rattle.control_triples.specs.Controls.{IsAbout, HasTopic, IsTopic, Says, IsCountObject, IsCount, FormTexts, IsLiteral, IsTemplateOf, MapsTo, IsForm, IsLeastForm, IsNextObject, IsNext, IsNumber, IsVersionObject, IsVersion}
use Rattle.own_controls.proofs.Asking.{asks, asks_object, asks_subject, named, one_passes, one_stands, none_passes, asked, asked_object, asked_subject, named_stands, holds_named, same_subject, same_object}
use Rattle.own_controls.specs.Metadata.{Parts, metadata}
use Rattle.own_controls.proofs.Answering.{node, Said, topic_asked, count_asked, version_asked, next_asked, no_next_asked, form_asked, template_asked, representation_asked, subject_said, predicate_said, object_said}
use Rattle.own_controls.proofs.Numbers.{count_text, count_value}

-- the quads of a body: data, and what is said of the page
abbrev pub body : List Triple → Bool → Bool → Parts → List Quad
body ts there back m = map in_default_graph ts ++ metadata there back m

unfoldable pub texts_of : Parts → FormTexts
texts_of m = record { template = m.template; subject = codes "subject"; predicate = codes "predicate"; object = codes "object" }

module _ (ts : List Triple) (there back : Bool) (m : Parts) where
  -- ---- the topic

  about : IsAbout (body ts there back m) (Iri m.graph) m.page
  about = (Iri m.graph, holds_named ts (metadata there back m) (Iri m.graph) (Iri m.graph) primary_topic (Iri m.page) (one_stands (asks primary_topic) (metadata there back m) (named (Iri m.graph) (Iri m.graph) primary_topic (Iri m.page)) (topic_asked there back m)))

  has_topic : HasTopic (body ts there back m) m.page
  has_topic = (Iri m.graph, about)

  pub topic_only : (text : List ℕ) → HasTopic (body ts there back m) text → text ≡ m.page
  topic_only text h =
      let stands = named_stands ts (metadata there back m) h.0 h.1.0 primary_topic (Iri text) h.1.1 in
      let is = one_passes (asks primary_topic) (metadata there back m) (named (Iri m.graph) (Iri m.graph) primary_topic (Iri m.page)) (named h.0 h.1.0 primary_topic (Iri text)) (topic_asked there back m) (asked h.0 h.1.0 primary_topic (Iri text)) stands in
      same_iri text m.page (same_object h.0 h.1.0 primary_topic (Iri text) (Iri m.graph) (Iri m.graph) primary_topic (Iri m.page) is)

  pub topic_is : (own : List ℕ) → IsTopic (body ts there back m) own m.page
  topic_is own =
      let go : (b : Bool) → bytes_eq m.page own ≡ b → IsTopic (body ts there back m) own m.page =
      λ b. elim b as (λ v. bytes_eq m.page own ≡ v → IsTopic (body ts there back m) own m.page) [
        | true ↦ λ same. let is : m.page ≡ own = (bytes_eq-Decides m.page own).0 same in inl (is, subst (HasTopic (body ts there back m)) is has_topic)
        | false ↦ λ other. inr ((λ h. let same = (bytes_eq-Decides m.page own).1 (sym (topic_only own h)) in absurd (cc)), (has_topic, topic_only))
      ] in
      go (bytes_eq m.page own) refl

  -- ---- what is said

  -- the one answer to a question is said
  says_one : (test : Quad → Bool) (s p o : Term) → filter test (metadata there back m) ≡ named (Iri m.graph) s p o ∷ [] → Says (body ts there back m) m.page s p o
  says_one test s p o only = record {
    graph = Iri m.graph;
    about = about;
    holds = holds_named ts (metadata there back m) (Iri m.graph) s p o (one_stands test (metadata there back m) (named (Iri m.graph) s p o) only);
  }

  -- and nothing else is
  said_one : (test : Quad → Bool) (s p o t q r : Term) → filter test (metadata there back m) ≡ named (Iri m.graph) t q r ∷ [] → (h : Says (body ts there back m) m.page s p o) → test (named h.graph s p o) ≡ true → (s ≡ t) × (o ≡ r)
  said_one test s p o t q r only h passes =
      let is = one_passes test (metadata there back m) (named (Iri m.graph) t q r) (named h.graph s p o) only passes (named_stands ts (metadata there back m) h.graph s p o h.holds) in
      (same_subject h.graph s p o (Iri m.graph) t q r is, same_object h.graph s p o (Iri m.graph) t q r is)

  -- ---- the count

  says_count : Says (body ts there back m) m.page (Iri m.page) total_items (integer m.count)
  says_count = says_one (asks total_items) (Iri m.page) total_items (integer m.count) (count_asked there back m)

  pub count_object : (o : Term) → IsCountObject (body ts there back m) m.page o → o ≡ integer m.count
  count_object o (inl h) = (said_one (asks total_items) (Iri m.page) total_items o (Iri m.page) total_items (integer m.count) (count_asked there back m) h (asked h.graph (Iri m.page) total_items o)).1
  count_object o (inr h) = absurd (h.0 (integer m.count) says_count)

  pub count_is : m.count ≤ HIGHEST_NUMBER → IsCount (body ts there back m) m.page m.count
  unfolding integer
  count_is fits = (integer m.count, (inl says_count, count_object), (count_text m.count fits, count_value m.count))

  -- ---- the version

  says_version : Says (body ts there back m) m.page (Iri (m.base ++ codes "#dataset")) version_info (plain (decimal_text m.version))
  says_version = says_one (asks version_info) (Iri (m.base ++ codes "#dataset")) version_info (plain (decimal_text m.version)) (version_asked there back m)

  version_only : (o : Term) → IsVersionObject (body ts there back m) m.page o → o ≡ plain (decimal_text m.version)
  version_only o h =
      (said_one (asks version_info) h.0.0 version_info o (Iri (m.base ++ codes "#dataset")) version_info (plain (decimal_text m.version)) (version_asked there back m) h.0.1 (asked h.0.1.graph h.0.0 version_info o)).1

  pub version_is : m.version ≤ HIGHEST_NUMBER → IsVersion (body ts there back m) m.page (Some m.version)
  version_is fits =
      let number : IsNumber (plain (decimal_text m.version)) m.version = (count_text m.version fits, count_value m.version) in
      (plain (decimal_text m.version), (((Iri (m.base ++ codes "#dataset"), says_version), (m.version, number)), version_only), number)

  -- ---- the next page

  next_one : there ≡ true → filter (asks next_page) (metadata there back m) ≡ named (Iri m.graph) (Iri m.page) next_page (Iri m.next) ∷ []
  next_one more = rw more (next_asked back m)

  pub next_only : there ≡ true → (o : Term) → IsNextObject (body ts there back m) m.page o → o ≡ Iri m.next
  next_only more o h = (said_one (asks next_page) (Iri m.page) next_page o (Iri m.page) next_page (Iri m.next) (next_one more) h (asked h.graph (Iri m.page) next_page o)).1

  pub says_next : there ≡ true → IsNextObject (body ts there back m) m.page (Iri m.next)
  says_next more = says_one (asks next_page) (Iri m.page) next_page (Iri m.next) (next_one more)

  pub next_is : there ≡ true → (authority : List ℕ) (next : Address) → IsAddress m.next next → authority_of next ≡ authority → IsNext (body ts there back m) m.page authority (Some next)
  next_is more authority next is own = (Iri m.next, (says_next more, next_only more), is, own)

  no_next_one : there ≡ false → filter (asks next_page) (metadata there back m) ≡ []
  no_next_one last = rw last (no_next_asked back m)

  pub no_next_is : there ≡ false → (authority : List ℕ) → IsNext (body ts there back m) m.page authority None
  no_next_is last authority o h = none_passes (asks next_page) (metadata there back m) (named h.graph (Iri m.page) next_page o) (no_next_one last) (asked h.graph (Iri m.page) next_page o) (named_stands ts (metadata there back m) h.graph (Iri m.page) next_page o h.holds)

  -- ---- the form

  says_form : Says (body ts there back m) m.page (Iri (m.base ++ codes "#dataset")) search_form node
  says_form = says_one (asks search_form) (Iri (m.base ++ codes "#dataset")) search_form node (form_asked there back m)

  form_only : (s o : Term) → Says (body ts there back m) m.page s search_form o → o ≡ node
  form_only s o h = (said_one (asks search_form) s search_form o (Iri (m.base ++ codes "#dataset")) search_form node (form_asked there back m) h (asked h.graph s search_form o)).1

  says_template : Says (body ts there back m) m.page node form_template (plain m.template)
  says_template = says_one (asks form_template) node form_template (plain m.template) (template_asked there back m)

  pub template_only : (o : Term) → IsTemplateOf (body ts there back m) m.page node o → o ≡ plain m.template
  template_only o h = (said_one (asks form_template) node form_template o node form_template (plain m.template) (template_asked there back m) h.0 (asked h.0.graph node form_template o)).1

  representation_only : (o : Term) → Says (body ts there back m) m.page node representation o → o ≡ explicit_representation
  representation_only o h = (said_one (asks representation) node representation o node representation explicit_representation (representation_asked there back m) h (asked h.graph node representation o)).1

  -- ---- the places

  maps_to : (label name : List ℕ) (property : Term) → Said (metadata there back m) m.graph label name property → MapsTo (body ts there back m) m.page node property name
  maps_to label name property said = record {
    mapping = Blank label;
    variable = plain name;
    is_mapping = says_one (asks_object form_mapping (Blank label)) node form_mapping (Blank label) said.mapping;
    has_property = says_one (asks_object mapped_property property) (Blank label) mapped_property property said.property_is;
    has_variable = says_one (asks_subject mapped_variable (Blank label)) (Blank label) mapped_variable (plain name) said.variable;
    is_text = refl;
  }

  mapping_only : (label name : List ℕ) (property mapping : Term) → Said (metadata there back m) m.graph label name property → Says (body ts there back m) m.page mapping mapped_property property → mapping ≡ Blank label
  mapping_only label name property mapping said h =
      (said_one (asks_object mapped_property property) mapping mapped_property property (Blank label) mapped_property property said.property_is h (asked_object h.graph mapping mapped_property property property refl)).0

  variable_only : (label name : List ℕ) (property mapping variable : Term) → Said (metadata there back m) m.graph label name property → mapping ≡ Blank label → Says (body ts there back m) m.page mapping mapped_variable variable → variable ≡ plain name
  variable_only label name property mapping variable said e h =
      (said_one (asks_subject mapped_variable (Blank label)) mapping mapped_variable variable (Blank label) mapped_variable (plain name) said.variable h (asked_subject h.graph mapping mapped_variable variable (Blank label) e)).1

  pub place_only : (label name : List ℕ) (property : Term) → Said (metadata there back m) m.graph label name property → (text : List ℕ) → MapsTo (body ts there back m) m.page node property text → text ≡ name
  place_only label name property said text h =
      let mapping = mapping_only label name property h.mapping said h.has_property in
      let variable = variable_only label name property h.mapping h.variable said mapping h.has_variable in
      let is : name ≡ text = subst (λ (t : Term). IsLiteral t text) variable h.is_text in
      sym is

  form_is : IsForm (body ts there back m) m.page node (texts_of m)
  unfolding texts_of
  form_is =
      let s = subject_said there back m in
      let p = predicate_said there back m in
      let o = object_said there back m in
      record {
        searched = (Iri (m.base ++ codes "#dataset"), says_form);
        literal = plain m.template;
        template = ((says_template, (m.template, refl)), template_only);
        template_text = refl;
        explicit = representation_only;
        subject = (maps_to (codes "s") (codes "subject") rdf_subject s, place_only (codes "s") (codes "subject") rdf_subject s);
        predicate = (maps_to (codes "p") (codes "predicate") rdf_predicate p, place_only (codes "p") (codes "predicate") rdf_predicate p);
        object = (maps_to (codes "o") (codes "object") rdf_object o, place_only (codes "o") (codes "object") rdf_object o);
        subject_predicate = λ e. cc;
        subject_object = λ e. cc;
        predicate_object = λ e. cc;
      }

  pub node_only : (other : Term) (texts : FormTexts) → IsForm (body ts there back m) m.page other texts → other ≡ node
  node_only other texts h = form_only h.searched.0 other h.searched.1

  never_less : (other : Term) → other ≡ node → term_order other node ≢ Less
  never_less other e less = less_not_equal (sym less ∙ ap (λ (t : Term). term_order t node) e ∙ tied_itself term_total node)

  pub least_is : IsLeastForm (body ts there back m) m.page (texts_of m)
  least_is = record { node = node; is_form = form_is; least = λ other texts h. never_less other (node_only other texts h) }
