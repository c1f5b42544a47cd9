-- The law of controls, put together.
use Rattle.std.proofs.Common.{◌≡◌, ℕ, ◌+◌, ◌-◌, Bool, nat_lt, List, [], ◌++◌, map, length, Option, Some, None, inl, inr, refl, sym, ◌∙◌, ap, subst}
use Rattle.std.specs.Prelude.{codes}
use Rattle.std.specs.List.{AllByRecursion}
use Rattle.std.specs.Char.{is_ascii}
use Rattle.std.proofs.lemmas.List.Folds.{list_all-append}
use Rattle.std.proofs.lemmas.Bool.{cases_lt, le-ltb, lt-ltb}
use Rattle.rdf_terms.specs.declared.term.Triple.{Triple}
use Rattle.rdf_terms.specs.declared.term.Quad.{Quad}
use Rattle.rdf_terms.specs.Selections.{Selection, selected, selected_page}
use Rattle.rdf_terms.specs.Canon.{canon}
use Rattle.rdf_terms.specs.Triples.{IsGroundTriple}
use Rattle.rdf_terms.specs.Valid.{IsValidTriple}
use Rattle.rdf_terms.specs.Fragments.{last_page_of}
use Rattle.rdf_terms.specs.declared.limits.TheConstants.{LONGEST_READ}
use Rattle.nquads_text.specs.Reads.{Reads}
use Rattle.nquads_text.proofs.ReadLaws.{all_readable as what_is_read}
use Rattle.nquads_text.proofs.RoundTrip.{read_again}
use Rattle.tpf_base.specs.Addresses.{Address, IsAddress, address_text, authority_of}
use Rattle.template_fill.specs.declared.form.Form.{Form}
use Rattle.template_fill.specs.Templates.{Template, read_template, expansion}
use Rattle.template_fill.specs.Pages.{page_address, server_template, template_text}
use Rattle.template_fill.specs.Metadata.{Config}
use Rattle.template_fill.specs.Configurations.{IsValidDataSet}
use Rattle.template_fill.proofs.Histories.{versions}
use Rattle.template_fill.specs.Bodies.{version_of, in_default_graph, page_quads, page_body}
use Rattle.template_fill.proofs.PageTexts.{page_is_longer}
use Rattle.fragment_page.specs.declared.page.Page.{Page}
use Rattle.control_triples.specs.Contents.{firsts, page_triples}
use Rattle.control_triples.specs.Controls.{IsTopic, IsCount, IsLeastForm, IsNext, IsVersion}
use Rattle.page_controls.specs.Controls.{IsFormOf, IsHome}
use Rattle.control_reader.specs.Takes.{IsBody, Takes}
use Rattle.control_laws.specs.Law.{IsWithinLimits, IsNextOf, IsServerForm, IsPageOf, IsReadFrom, IsVersionNumber, ControlsReadBack, NothingElseIsRead, PagesAreThere}
use Rattle.page_controls.proofs.Fine.{one_version}
use Rattle.own_controls.proofs.Addresses.{base_web}
use Rattle.own_controls.proofs.Web.{web_more}
use Rattle.control_laws.proofs.LawAddresses.{extends_web, longer, longer_is, same_authority}
use Rattle.own_controls.proofs.Controls.{body, texts_of, topic_is, count_is, next_is, no_next_is, least_is, version_is}
use Rattle.control_laws.proofs.LawData.{page_firsts, page_all, default_data, no_blank_data}
use Rattle.control_laws.proofs.LawMetadata.{Parts, metadata, parts_for, metadata_is}
use Rattle.own_controls.proofs.Answering.{all_named}
use Rattle.control_laws.proofs.LawOnly.{topic_taken, count_fits, count_taken, texts_taken, form_taken, home_taken, next_taken}
use Rattle.own_controls.specs.Safe.{HasSafeTexts, HasShortTerms}
use Rattle.own_controls.proofs.Readable.{IsSafeQuad, all_readable, safe_body}
use Rattle.control_laws.proofs.LawReads.{only_reading, all_short}
use Rattle.control_laws.proofs.LawTemplates.{template_reads, home_is}

-- ---- the parts

safe_texts : (config : Config) (s : Selection) (k count version : ℕ) → IsAddress (address_text config.base) config.base → HasSafeTexts (parts_for config s k count version)
unfolding parts_for
safe_texts config s k count version h =
    let page = extends_web config.base (page_address config.base s k) h (page_is_longer config.base s k) in
    let base = base_web config.base h in
    record {
      graph = web_more (page_address config.base s k) (codes "#metadata") page refl refl;
      page = page;
      first = extends_web config.base (page_address config.base s 1) h (page_is_longer config.base s 1);
      base = base;
      template = rw (list_all-append is_ascii (address_text config.base) (codes "{?subject,predicate,object}"), base.ascii) refl;
      next = extends_web config.base (page_address config.base s (k + 1)) h (page_is_longer config.base s (k + 1));
      previous = extends_web config.base (page_address config.base s (k - 1)) h (page_is_longer config.base s (k - 1));
    }

parts_next : (config : Config) (s : Selection) (k count version : ℕ) → (parts_for config s k count version).next ≡ page_address config.base s (k + 1)
unfolding parts_for
parts_next config s k count version = refl

parts_template : (config : Config) (s : Selection) (k count version : ℕ) → (parts_for config s k count version).template ≡ template_text config.base
unfolding parts_for
parts_template config s k count version = refl

parts_count : (config : Config) (s : Selection) (k count version : ℕ) → (parts_for config s k count version).count ≡ count
unfolding parts_for
parts_count config s k count version = refl

parts_version : (config : Config) (s : Selection) (k count version : ℕ) → (parts_for config s k count version).version ≡ version
unfolding parts_for
parts_version config s k count version = refl

-- ---- the form

form_given : (base : Address) (form : Form) (m : Parts) → IsAddress (address_text base) base → m.template ≡ template_text base → IsServerForm base form → IsFormOf (texts_of m) form
unfolding texts_of
form_given base form m h is own = record {
  template = ap read_template is ∙ template_reads base h ∙ ap (λ (t : Template). Some t) (sym own.template);
  names = rw own.template refl;
  subject = own.subject;
  predicate = own.predicate;
  object = own.object;
}

home_given : (base : Address) (template : Template) (authority : List ℕ) → IsAddress (address_text base) base → template ≡ server_template base → authority ≡ authority_of base → IsHome template authority
home_given base template authority h is own = (base, subst (λ (text : List ℕ). IsAddress text base) (sym (ap (λ (t : Template). expansion t []) is ∙ home_is base)) h, sym own)

-- ---- the next page

next_given : (ts : List Triple) (back : Bool) (m : Parts) (config : Config) (s : Selection) (k last : ℕ) (authority : List ℕ) (next : Option Address) → IsAddress (address_text config.base) config.base → m.next ≡ page_address config.base s (k + 1) → authority ≡ authority_of config.base → IsNextOf config s k last next → IsNext (body ts (nat_lt k last) back m) m.page authority next
next_given ts back m config s k last authority None h is own more = no_next_is ts (nat_lt k last) back m (le-ltb k last more) authority
next_given ts back m config s k last authority (Some next) h is own more =
    next_is ts (nat_lt k last) back m (lt-ltb k last more.0) authority next (subst (λ (text : List ℕ). IsAddress text next) (sym is) more.1)
    (same_authority config.base next (page_address config.base s (k + 1)) h (page_is_longer config.base s (k + 1)) more.1 ∙ sym own)

-- ---- the data

triples_are : (triples : List Triple) (s : Selection) (k size : ℕ) (there back : Bool) (m : Parts) → page_triples (body (selected_page triples s k size) there back m) ≡ selected_page triples s k size
triples_are triples s k size there back m = ap firsts (default_data (selected_page triples s k size) (metadata there back m) (all_named there back m)) ∙ page_firsts triples s k size

-- ---- the body

-- what is said of one list of quads and one topic is said of equal ones
moved : (P : List Quad → List ℕ → Type 0) (one other : List Quad) (topic text : List ℕ) → one ≡ other → topic ≡ text → P one topic → P other text
moved P one other topic text e f h = subst (P other) f (subst (λ (qs : List Quad). P qs topic) e h)

module _ (history : List (List Triple)) (version : ℕ) (config : Config) (s : Selection) (k : ℕ) (valid : IsValidDataSet (version_of history version)) (web : IsAddress (address_text config.base) config.base) where
  abbrev count : ℕ
  count = length (selected (version_of history version) s)

  abbrev last : ℕ
  last = last_page_of count config.page_size

  abbrev ts : List Triple
  ts = selected_page (version_of history version) s k config.page_size

  abbrev m : Parts
  m = parts_for config s k count version

  abbrev quads : List Quad
  quads = body ts (nat_lt k last) (nat_lt 1 k) m

  quads_are : page_quads history version config s k ≡ quads
  quads_are = ap (λ (named : List Quad). map in_default_graph ts ++ named) (metadata_is config s k count version)

  text_is : page_body history version config s k ≡ canon quads
  unfolding page_body
  text_is = ap canon quads_are

  classes : AllByRecursion IsGroundTriple ts
  classes = page_all IsGroundTriple (version_of history version) s k config.page_size valid.data_set.classes

  safe : AllByRecursion IsSafeQuad quads
  safe = safe_body ts (nat_lt k last) (nat_lt 1 k) m classes (page_all IsValidTriple (version_of history version) s k config.page_size valid.terms) (safe_texts config s k count version web)

  page_data : page_triples quads ≡ ts
  page_data = triples_are (version_of history version) s k config.page_size (nat_lt k last) (nat_lt 1 k) m

  m_count : m.count ≡ count
  m_count = parts_count config s k count version

  m_version : m.version ≡ version
  m_version = parts_version config s k count version

  -- the body is read as these quads
  reads : AllByRecursion (HasShortTerms LONGEST_READ) (page_quads history version config s k) → IsBody (page_body history version config s k) quads
  reads short = rw text_is (read_again LONGEST_READ quads (all_readable LONGEST_READ quads safe (subst (AllByRecursion (HasShortTerms LONGEST_READ)) quads_are short)))

  -- and as no others
  only_quads : (read : List Quad) → IsBody (page_body history version config s k) read → read ≡ quads
  only_quads read h = only_reading LONGEST_READ quads read safe (subst (λ (text : List ℕ). Reads text LONGEST_READ read) text_is h)

  taken : (address : Address) (page : Page) → IsVersionNumber version → IsWithinLimits history version config s k → authority_of address ≡ authority_of config.base → IsPageOf (version_of history version) version config s k page → Takes (page_body history version config s k) address page
  taken address page numbered limits own is = record {
    quads = quads;
    topic = m.page;
    texts = texts_of m;
    controls = record { body = reads limits.terms; is_topic = topic_is ts (nat_lt k last) (nat_lt 1 k) m (address_text address) };
    count = subst (IsCount quads m.page) (m_count ∙ sym is.count) (count_is ts (nat_lt k last) (nat_lt 1 k) m (rw m_count limits.count));
    least = least_is ts (nat_lt k last) (nat_lt 1 k) m;
    form = form_given config.base page.form m web (parts_template config s k count version) is.form;
    next = next_given ts (nat_lt 1 k) m config s k last (authority_of address) page.next web (parts_next config s k count version) own is.next;
    home = home_given config.base page.form.template (authority_of address) web is.form.template own;
    version = subst (IsVersion quads m.page) (ap (λ (n : ℕ). Some n) m_version ∙ sym is.version_is) (version_is ts (nat_lt k last) (nat_lt 1 k) m (rw m_version numbered));
    triples = is.triples_are ∙ sym page_data;
    no_blank = no_blank_data quads ts page_data classes;
  }

  only : (address : Address) (page : Page) → IsVersionNumber version → Takes (page_body history version config s k) address page → IsReadFrom history version config s k address page
  only address page numbered t =
      let there = nat_lt k last in
      let back = nat_lt 1 k in
      let is = only_quads t.quads t.controls.body in
      let topic = topic_taken ts there back m (address_text address) t.topic (subst (λ (qs : List Quad). IsTopic qs (address_text address) t.topic) is t.controls.is_topic) in
      let counted = moved (λ qs text. IsCount qs text page.count) t.quads quads t.topic m.page is topic t.count in
      let least = moved (λ qs text. IsLeastForm qs text t.texts) t.quads quads t.topic m.page is topic t.least in
      let linked = moved (λ qs text. IsNext qs text (authority_of address) page.next) t.quads quads t.topic m.page is topic t.next in
      let said = moved (λ qs text. IsVersion qs text page.version) t.quads quads t.topic m.page is topic t.version in
      let form = form_taken config.base m t.texts page.form web (parts_template config s k count version) (texts_taken ts there back m t.texts least) t.form in
      let short = all_short LONGEST_READ t.quads (what_is_read (page_body history version config s k) LONGEST_READ t.quads t.controls.body) in
      record {
        within = record { count = rw (← m_count) (count_fits ts there back m page.count counted); terms = subst (AllByRecursion (HasShortTerms LONGEST_READ)) (is ∙ sym quads_are) short };
        authority = home_taken config.base page.form.template (authority_of address) web form.template t.home;
        is_page = record {
          triples_are = t.triples ∙ ap page_triples is ∙ page_data;
          count = count_taken ts there back m page.count counted ∙ m_count;
          next = next_taken ts back m config s k last (authority_of address) page.next (parts_next config s k count version) linked;
          form = form;
          version_is = one_version quads m.page page.version (Some m.version) said (version_is ts there back m (rw m_version numbered)) ∙ ap (λ (n : ℕ). Some n) m_version;
        };
      }

  next_there : (next : Option Address) × IsNextOf config s k last next
  next_there =
      let text = page_address config.base s (k + 1) in
      let more = page_is_longer config.base s (k + 1) in
      elim (cases_lt k last) [
        | inl below ↦ (Some (longer config.base text more), (below, longer_is config.base text web more))
        | inr past ↦ (None, past)
      ]

  page_there : (page : Page) × IsPageOf (version_of history version) version config s k page
  page_there =
      let next = next_there in (
        record {
          triples = ts;
          count = count;
          next = next.0;
          form = record { template = server_template config.base; subject = codes "subject"; predicate = codes "predicate"; object = codes "object" };
          version = Some version;
        },
        record { triples_are = refl; count = refl; next = next.1; form = record { template = refl; subject = refl; predicate = refl; object = refl }; version_is = refl },
      )

-- ---- the law

pub controls_read_back : ControlsReadBack
controls_read_back history version config s k address page is numbered valid = taken history version config s k (versions history version is) valid.base address page numbered

pub nothing_else_is_read : NothingElseIsRead
nothing_else_is_read history version config s k address page is numbered valid = only history version config s k (versions history version is) valid.base address page numbered

pub pages_are_there : PagesAreThere
pages_are_there history version config s k is valid = page_there history version config s k (versions history version is) valid.base
