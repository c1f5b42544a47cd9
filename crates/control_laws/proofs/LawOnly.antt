-- What is taken from the body of a page is that page.
use Rattle.std.proofs.Common.{◌≡◌, ℕ, ◌+◌, ◌<◌, ◌≤◌, ◌⊎◌, inl, inr, Bool, true, false, nat_lt, List, [], Option, Some, None, sym, ◌∙◌, ap, subst}
use Rattle.std.specs.Prelude.{codes}
use Rattle.std.proofs.lemmas.Bool.{cases_lt, le-ltb, lt-ltb}
use Rattle.rdf_terms.specs.declared.term.Term.{Term}
use Rattle.rdf_terms.specs.declared.term.Term.TheVariants.{Iri}
use Rattle.rdf_terms.specs.declared.term.Triple.{Triple}
use Rattle.rdf_terms.specs.Selections.{Selection}
use Rattle.tpf_base.specs.declared.limits.TheConstants.{HIGHEST_NUMBER}
use Rattle.tpf_base.specs.Addresses.{Address, IsAddress, address_text, authority_of}
use Rattle.template_fill.specs.declared.form.Form.{Form}
use Rattle.template_fill.specs.Templates.{Template, read_template, expansion}
use Rattle.template_fill.specs.Pages.{page_address, server_template, template_text}
use Rattle.template_fill.specs.Metadata.{Config, plain, integer}
use Rattle.template_fill.proofs.Reading.{one_address}
use Rattle.control_triples.specs.Vocabulary.{rdf_subject, rdf_predicate, rdf_object}
use Rattle.control_triples.specs.Controls.{IsTopic, IsNumber, IsCount, FormTexts, IsLiteral, IsForm, IsLeastForm, IsLink, IsNext}
use Rattle.page_controls.specs.Controls.{IsFormOf, IsHome}
use Rattle.control_laws.specs.Law.{IsNextOf, IsServerForm}
use Rattle.own_controls.proofs.Controls.{body, topic_only, count_object, next_only, says_next, no_next_is, template_only, place_only, node_only}
use Rattle.own_controls.specs.Metadata.{Parts}
use Rattle.own_controls.proofs.Answering.{node, subject_said, predicate_said, object_said}
use Rattle.own_controls.proofs.Numbers.{count_value, count_bound}
use Rattle.control_laws.proofs.LawTemplates.{template_reads, home_is}

-- the texts of the server's form
pub record AreServerTexts (m : Parts) (texts : FormTexts) : Type 0 where
  pub template : texts.template ≡ m.template
  pub subject : texts.subject ≡ codes "subject"
  pub predicate : texts.predicate ≡ codes "predicate"
  pub object : texts.object ≡ codes "object"

module _ (ts : List Triple) (there back : Bool) (m : Parts) where
  pub topic_taken : (own text : List ℕ) → IsTopic (body ts there back m) own text → text ≡ m.page
  topic_taken own text (inl h) = h.0 ∙ topic_only ts there back m own h.1
  topic_taken own text (inr h) = topic_only ts there back m text h.1.0

  number_taken : (n : ℕ) → IsCount (body ts there back m) m.page n → IsNumber (integer m.count) n
  number_taken n h = subst (λ (t : Term). IsNumber t n) (count_object ts there back m h.0 h.1.0) h.2

  -- a count that is taken is at most HIGHEST_NUMBER
  pub count_fits : (n : ℕ) → IsCount (body ts there back m) m.page n → m.count ≤ HIGHEST_NUMBER
  unfolding integer
  count_fits n h = count_bound m.count (number_taken n h).0

  pub count_taken : (n : ℕ) → IsCount (body ts there back m) m.page n → n ≡ m.count
  unfolding integer
  count_taken n h = (number_taken n h).1 ∙ sym (count_value m.count)

  form_texts : (texts : FormTexts) → IsForm (body ts there back m) m.page node texts → AreServerTexts m texts
  form_texts texts h =
      let literal = template_only ts there back m h.literal h.template.0 in
      let template : IsLiteral (plain m.template) texts.template = subst (λ (t : Term). IsLiteral t texts.template) literal h.template_text in
      record {
        template = sym template;
        subject = place_only ts there back m (codes "s") (codes "subject") rdf_subject (subject_said there back m) texts.subject h.subject.0;
        predicate = place_only ts there back m (codes "p") (codes "predicate") rdf_predicate (predicate_said there back m) texts.predicate h.predicate.0;
        object = place_only ts there back m (codes "o") (codes "object") rdf_object (object_said there back m) texts.object h.object.0;
      }

  pub texts_taken : (texts : FormTexts) → IsLeastForm (body ts there back m) m.page texts → AreServerTexts m texts
  texts_taken texts h = form_texts texts (subst (λ (t : Term). IsForm (body ts there back m) m.page t texts) (node_only ts there back m h.node texts h.is_form) h.is_form)

  no_next : (authority : List ℕ) (next : Address) → there ≡ false → IsNext (body ts there back m) m.page authority (Some next) → ⊥
  no_next authority next last h = no_next_is ts there back m last authority h.0 h.1.0

  next_link : (authority : List ℕ) (next : Address) → there ≡ true → IsNext (body ts there back m) m.page authority (Some next) → IsAddress m.next next
  next_link authority next more h =
      let is = next_only ts there back m more h.0 h.1.0 in
      let link : IsLink (Iri m.next) next = subst (λ (t : Term). IsLink t next) is h.2 in
      link

  has_next : (authority : List ℕ) → there ≡ true → IsNext (body ts there back m) m.page authority None → ⊥
  has_next authority more h = h (Iri m.next) (says_next ts there back m more)

same_template : (a b : Template) → Some a ≡ Some b → a ≡ b
same_template a b e = cc

pub form_taken : (base : Address) (m : Parts) (texts : FormTexts) (form : Form) → IsAddress (address_text base) base → m.template ≡ template_text base → AreServerTexts m texts → IsFormOf texts form → IsServerForm base form
form_taken base m texts form h is own f = record {
  template = same_template form.template (server_template base) (sym f.template ∙ ap read_template (own.template ∙ is) ∙ template_reads base h);
  subject = f.subject ∙ own.subject;
  predicate = f.predicate ∙ own.predicate;
  object = f.object ∙ own.object;
}

pub home_taken : (base : Address) (template : Template) (authority : List ℕ) → IsAddress (address_text base) base → template ≡ server_template base → IsHome template authority → authority ≡ authority_of base
home_taken base template authority h is home =
    let text = ap (λ (t : Template). expansion t []) is ∙ home_is base in
    let own : IsAddress (address_text base) home.0 = subst (λ (x : List ℕ). IsAddress x home.0) text home.1 in
    sym home.2 ∙ ap authority_of (one_address (address_text base) home.0 base own h)

last_by : (ts : List Triple) (back : Bool) (m : Parts) (k last : ℕ) (authority : List ℕ) → (k < last) ⊎ (last ≤ k) → IsNext (body ts (nat_lt k last) back m) m.page authority None → last ≤ k
last_by ts back m k last authority (inl below) h = absurd (has_next ts (nat_lt k last) back m authority (lt-ltb k last below) h)
last_by ts back m k last authority (inr past) h = past

below_by : (ts : List Triple) (back : Bool) (m : Parts) (k last : ℕ) (authority : List ℕ) (next : Address) → (k < last) ⊎ (last ≤ k) → IsNext (body ts (nat_lt k last) back m) m.page authority (Some next) → (k < last) × IsAddress m.next next
below_by ts back m k last authority next (inl below) h = (below, next_link ts (nat_lt k last) back m authority next (lt-ltb k last below) h)
below_by ts back m k last authority next (inr past) h = absurd (no_next ts (nat_lt k last) back m authority next (le-ltb k last past) h)

pub next_taken : (ts : List Triple) (back : Bool) (m : Parts) (config : Config) (s : Selection) (k last : ℕ) (authority : List ℕ) (next : Option Address) → m.next ≡ page_address config.base s (k + 1) → IsNext (body ts (nat_lt k last) back m) m.page authority next → IsNextOf config s k last next
next_taken ts back m config s k last authority None is h = last_by ts back m k last authority (cases_lt k last) h
next_taken ts back m config s k last authority (Some next) is h =
    let found = below_by ts back m k last authority next (cases_lt k last) h in
    (found.0, subst (λ (text : List ℕ). IsAddress text next) is found.1)
