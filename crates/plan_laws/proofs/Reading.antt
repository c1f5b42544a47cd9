-- What a server within the limits answers is read as pages.
use Rattle.std.proofs.Common.{ℕ, suc, ◌≡◌, ◌+◌, ◌-◌, ◌/◌, ◌<◌, ◌≤◌, ◌^◌, ◌==◌, max, nat_lt, Bool, true, false, List, [], ◌∷◌, ◌++◌, length, replicate, Some, None, codes, if◌then◌else◌, refl, sym, ap, subst, ◌∙◌, arith, length-append, append-nil, div-le_self}
use Rattle.std.specs.List.{AllByRecursion, Contains}
use Rattle.list_laws.proofs.Members.{at_head, in_tail, all_from, in_flat_map}
use Rattle.list_laws.proofs.Told.{all_in}
use Rattle.tpf_base.specs.declared.limits.TheConstants.{HEAD_LIMIT, HIGHEST_NUMBER}
use Rattle.tpf_base.specs.Addresses.{Address, IsAddress, address_text, authority_of, target_of, query_text}
use Rattle.tpf_base.specs.HttpText.{request_text}
use Rattle.tpf_base.specs.Marks.{Mark, version_at}
use Rattle.rdf_terms.specs.declared.term.Term.{Term}
use Rattle.rdf_terms.specs.declared.term.Triple.{Triple}
use Rattle.rdf_terms.specs.declared.slots.Slot.TheVariants as slots
use Rattle.rdf_terms.specs.declared.slots.Slots.{Slots}
use Rattle.rdf_terms.specs.Askable.{AskableAreKept}
use Rattle.rdf_terms.specs.Canon.{canonical_term}
use Rattle.rdf_terms.specs.declared.limits.TheConstants.{LONGEST_TERM, MOST_ROWS}
use Rattle.rdf_terms.specs.Fragments.{last_page_of}
use Rattle.rdf_terms.specs.Selections.{Selection, IsKeptSelection, all_of, selected, selected_last, selected_page}
use Rattle.rdf_terms.specs.Valid.{IsValidTriple}
use Rattle.rdf_terms.proofs.Selected.{selected_length}
use Rattle.triple_table.specs.Served.{terms_in, terms_of}
use Rattle.template_fill.specs.declared.limits.TheConstants.{LARGEST_PAGE, LONGEST_START}
use Rattle.template_fill.specs.ReadAddress.{path_of, query_of, with_target}
use Rattle.template_fill.specs.Explicit.{FormsAreShort}
use Rattle.template_fill.specs.Pages.{places_text, selection_text, page_address}
use Rattle.template_fill.specs.Answers.{read_as}
use Rattle.template_fill.specs.Authorities.{ShareAuthority, PagesAreAddresses, PagesShareAuthority, address_of_page}
use Rattle.template_fill.specs.Metadata.{Config}
use Rattle.template_fill.specs.Configurations.{VersionsAreValid}
use Rattle.template_fill.specs.Bodies.{version_of, page_quads}
use Rattle.template_fill.specs.HttpAnswer.{Answer}
use Rattle.template_fill.specs.Answered.{is_answered, GivesPage, PagesAreGiven, AnsweredGivePages}
use Rattle.control_reader.specs.Takes.{Takes}
use Rattle.control_laws.specs.Law.{IsWithinLimits, ControlsReadBack, PagesAreThere}
use Rattle.control_laws.proofs.LawData.{page_all}
use Rattle.control_laws.proofs.LawMetadata.{parts_for, metadata_is}
use Rattle.bgp_core.specs.declared.pattern.Part.{Part}
use Rattle.bgp_core.specs.declared.pattern.Part.TheVariants.{Fixed, Name}
use Rattle.bgp_core.specs.declared.pattern.Pattern.{Pattern}
use Rattle.bgp_core.specs.Queries.{IsValidPart}
use Rattle.http_ends.specs.Requests.{request_for}
use Rattle.plan_laws.specs.Servers.{server_world}
use Rattle.request_plan.specs.Plans.{plan}
use Rattle.request_plan.proofs.Valid.{empty-place}
use Rattle.plan_laws.specs.Fitting.{IsRead, AreServable, IsAskablePart, IsAskable, IsServable}
use Rattle.plan_laws.proofs.Lengths.{IsShort, fragment_short, passed_short, address_short}
use Rattle.plan_laws.proofs.Metadata.{AreFitting, HasFittingTexts, HasFittingTerms, joined, metadata_fits, data_fits}
use Rattle.plan_laws.proofs.Slots.{Binds, HasTerms, IsPart, HasParts}
use Rattle.plan_laws.proofs.Selections.{IsGood, IsGoodSelection, good_for, good_passed}
use Rattle.plan_laws.proofs.Plans.{IsPlanned, low_last, addresses_planned, items_all, page_planned}
use Rattle.plan_laws.proofs.Asked.{target_short}

-- ---- how many pages

pages_few : (count size : ℕ) → size ≤ LARGEST_PAGE → count ≤ HIGHEST_NUMBER → last_page_of count size ≤ HIGHEST_NUMBER + LARGEST_PAGE
pages_few count size small few = within ((count + (size - 1)) / size) (div-le_self (count + (size - 1)) size)
  where
    within : (n : ℕ) → n ≤ count + (size - 1) → max 1 n ≤ HIGHEST_NUMBER + LARGEST_PAGE
    within n h = omega (arith, h, small, few)

-- ---- requests

target_length : (target : List ℕ) → length (path_of target ++ query_text (query_of target)) ≤ length target
target_length [] = omega arith
target_length (b ∷ rest) = by (b == 63) (target_length rest)
  where
    by : (t : Bool) → length (path_of rest ++ query_text (query_of rest)) ≤ length rest
        → length ((if t then [] else b ∷ path_of rest) ++ query_text (if t then Some rest else query_of rest)) ≤ suc (length rest)
    by true h = omega arith
    by false h = omega (arith, h)

request_short : (authority target : List ℕ) → length (request_text authority target) ≤ length authority + (length target + 100)
request_short authority target = simp length-append (omega (arith, get_long, http_long, host_long, accept_long))
  where
    get_long : length (codes "GET ") ≡ 4
    get_long = refl

    http_long : length (codes " HTTP/1.1") ≡ 9
    http_long = refl

    host_long : length (codes "Host: ") ≡ 6
    host_long = refl

    accept_long : length (codes "Accept: application/n-quads") ≡ 27
    accept_long = refl

-- the authority and the target of an address are no longer than its text
parts_short : (address : Address) → length (authority_of address) + length (target_of address) ≤ length (address_text address)
parts_short address = omega (arith, length-append (codes "http://" ++ authority_of address) (target_of address), length-append (codes "http://") (authority_of address))

request_fits : (address : Address) → length (authority_of address) + length (target_of address) ≤ 4194000 → length (request_for address) ≤ HEAD_LIMIT
request_fits address h = omega (arith, h, request_short (authority_of address) (target_of address))

-- the address of a page is no longer than its text
page_parts : (base : Address) (s : Selection) (k : ℕ) → length (authority_of (address_of_page base s k)) + length (target_of (address_of_page base s k)) ≤ length (page_address base s k)
unfolding address_of_page page_address
page_parts base s k = by (_)
  where
    by : (more : List ℕ) → length (authority_of base) + length (target_of (with_target base.host base.port (target_of base ++ more))) ≤ length (address_text base ++ more)
    by more =
        omega (
          arith,
          target_length (target_of base ++ more),
          length-append (target_of base) more,
          length-append (address_text base) more,
          parts_short base,
        )

-- ---- terms

part_good : FormsAreShort → (part : Part) → IsValidPart part → IsAskablePart part → IsPart IsGood part
part_good short (Fixed t) valid few = (valid, omega (arith, few, short.texts t))
part_good short (Name n) valid few = tt

pub patterns_good : FormsAreShort → (ps : List Pattern) → AllByRecursion IsAskable ps → AllByRecursion (HasParts IsGood) ps
patterns_good short [] h = tt
patterns_good short (p ∷ ps) h =
    let a = h.0 in
    (record { subject = part_good short p.subject a.valid.subject a.subject; predicate = part_good short p.predicate a.valid.predicate a.predicate; object = part_good short p.object a.valid.object a.object }, patterns_good short ps h.1)

-- what holds of the terms of triples holds of each triple's
terms_each : (triples : List Triple) (P : Term → Type 0) → ((term : Term) → Contains (terms_of triples) term → P term) → (t : Triple) → Contains triples t → HasTerms P t
terms_each triples P each t there =
    let at : (term : Term) → Contains (terms_in t) term → Contains (terms_of triples) term = λ term h. in_flat_map terms_in triples t term there h in
    record {
      subject = each t.subject (at t.subject (at_head t.subject (t.predicate ∷ t.object ∷ [])));
      predicate = each t.predicate (at t.predicate (in_tail t.subject t.predicate (t.predicate ∷ t.object ∷ []) (at_head t.predicate (t.object ∷ []))));
      object = each t.object (at t.object (in_tail t.subject t.object (t.predicate ∷ t.object ∷ []) (in_tail t.predicate t.object (t.object ∷ []) (at_head t.object []))));
    }

abbrev IsBrief : Term → Type 0
IsBrief term = length (canonical_term term) ≤ LONGEST_TERM

good_triple : FormsAreShort → (t : Triple) → IsValidTriple t → HasTerms IsBrief t → HasTerms IsGood t
good_triple short t valid h = record {
  subject = (valid.subject, let few = h.subject in omega (arith, few, short.canonical t.subject));
  predicate = (valid.predicate, let few = h.predicate in omega (arith, few, short.canonical t.predicate));
  object = (valid.object, let few = h.object in omega (arith, few, short.canonical t.object));
}

fitting_triple : (t : Triple) → HasTerms IsBrief t → HasFittingTerms t
fitting_triple t h = record {
  subject = record { short = let few = h.subject in omega (arith, few) };
  predicate = record { short = let few = h.predicate in omega (arith, few) };
  object = record { short = let few = h.object in omega (arith, few) };
}

pub good_triples : FormsAreShort → (triples : List Triple) → AllByRecursion IsValidTriple triples → AreServable triples → AllByRecursion (HasTerms IsGood) triples
good_triples short triples valid s =
    all_from (HasTerms IsGood) triples (λ t there. good_triple short t (all_in IsValidTriple triples t valid there) (terms_each triples IsBrief s.terms t there))

fitting_triples : (triples : List Triple) → AreServable triples → AllByRecursion HasFittingTerms triples
fitting_triples triples s = all_from HasFittingTerms triples (λ t there. fitting_triple t (terms_each triples IsBrief s.terms t there))

pub binds_none : (P : Term → Type 0) (n : ℕ) → Binds P (replicate n None)
binds_none P n = record { each = λ k t e. absurd (empty-place n k t e) }

-- ---- pages

data_set_long : length (codes "#metadata") ≡ 9
data_set_long = refl

template_long : length (codes "{?subject,predicate,object}") ≡ 27
template_long = refl

-- the texts of a page of a selection that is not long fit
texts_fit : (config : Config) (u : Selection) (k count version : ℕ) → length (address_text config.base) ≤ LONGEST_START → IsShort u → k + 1 < 2 ^ 64 → count < 2 ^ 64 → version < 2 ^ 64 → HasFittingTexts (parts_for config u k count version)
unfolding parts_for
texts_fit config u k count version base h fits few number = record {
  graph = omega (arith, base, address_short config.base u k h (omega (arith, fits)), length-append (page_address config.base u k) (codes "#metadata"), data_set_long);
  page = omega (arith, base, address_short config.base u k h (omega (arith, fits)));
  first = omega (arith, base, address_short config.base u 1 h (omega arith));
  base = omega (arith, base);
  template = omega (arith, base, length-append (address_text config.base) (codes "{?subject,predicate,object}"), template_long);
  next = omega (arith, base, address_short config.base u (k + 1) h fits);
  previous = omega (arith, base, address_short config.base u (k - 1) h (omega (arith, fits)));
  count = few;
  version = number;
}

-- the slots of all triples, whose first page stands at the base
abbrev free : Slots
free = record { subject = slots.Any; predicate = slots.Any; object = slots.Any }

base_address : (base : Address) → page_address base (all_of free) 1 ≡ address_text base
unfolding page_address selection_text places_text
base_address base = append-nil (address_text base)

free_kept : IsKeptSelection (all_of free)
free_kept = record { slots = record { subject = tt; predicate = tt; object = tt }; rows = tt; few = omega arith }

free_short : (rows : Bool) → IsShort (read_as rows (all_of free))
free_short rows = passed_short rows (all_of free) (fragment_short free (record { subject = tt; predicate = tt; object = tt }))

module _ (forms : FormsAreShort) (given : PagesAreGiven) (answered : AnsweredGivePages) (addresses : PagesAreAddresses) (authorities : PagesShareAuthority) (kept : AskableAreKept)
    (reads : ControlsReadBack) (there : PagesAreThere) (versions : VersionsAreValid)
    (history : List (List Triple)) (mark : Mark) (config : Config) (s : IsServable history mark config) where
  abbrev version : ℕ
  version = version_at mark

  abbrev triples : List Triple
  triples = version_of history version

  few_selected : (u : Selection) → length (selected triples u) ≤ HIGHEST_NUMBER
  few_selected u = omega (arith, selected_length triples u, s.triples.few)

  quads_fit : (u : Selection) (k : ℕ) → IsShort u → k ≤ selected_last triples u config.page_size → AreFitting (page_quads history version config u k)
  quads_fit u k h high =
      let count = length (selected triples u) in
      let few = few_selected u in
      let pages = pages_few count config.page_size s.is_config.high few in
      let number : version < 2 ^ 64 = omega (arith, s.version.high, s.is_history.high) in
      let m = parts_for config u k count version in
      let texts = texts_fit config u k count version s.base h (omega (arith, pages, high)) (omega (arith, few)) number in
      let said = metadata_fits (nat_lt k (last_page_of count config.page_size)) (nat_lt 1 k) m texts in
      joined (data_fits (selected_page triples u k config.page_size) (page_all HasFittingTerms triples u k config.page_size (fitting_triples triples s.triples)))
      (subst AreFitting (sym (metadata_is config u k count version)) said)

  limits : (u : Selection) (k : ℕ) → IsShort u → k ≤ selected_last triples u config.page_size → IsWithinLimits history version config u k
  limits u k h high = record { count = few_selected u; terms = (quads_fit u k h high).each }

  -- what gives a page of a selection that is not long is read
  read_of : (address : Address) (u : Selection) (k : ℕ) → GivesPage history mark config address u k → IsShort u → authority_of address ≡ authority_of config.base
      → length (authority_of address) + length (target_of address) ≤ 4194000 → IsRead history mark config address
  read_of address u k g h same short =
      let page = there history version config u k s.is_history s.is_config in
      let most : version ≤ HIGHEST_NUMBER = omega (arith, s.version.high, s.is_history.high) in
      record {
        short = request_fits address short;
        answered = (answered history mark config address).1 u k g;
        page = page.0;
        taken = subst (λ (a : Answer). Takes a.body address page.0) (sym g.answer) (reads history version config u k address page.0 s.is_history most s.is_config (limits u k h g.high) same page.1);
      }

  same_authority : (address : Address) → ShareAuthority config.base address → authority_of address ≡ authority_of config.base
  same_authority address share =
      ap (λ (host : List ℕ). authority_of (record address { host = host })) share.host ∙ ap (λ (port : ℕ). authority_of (record address { host = config.base.host; port = port })) share.port

  -- the address of a page has the authority of the base
  pub own_authority : (address : Address) → IsPlanned IsGoodSelection triples config address → authority_of address ≡ authority_of config.base
  own_authority address p =
      let own = address_of_page config.base p.selection p.k in
      let is : IsAddress (page_address config.base p.selection p.k) own = addresses config.base p.selection p.k s.is_config.base in
      ap authority_of p.address_is ∙ same_authority own (authorities config.base p.selection p.k own s.is_config.base is)

  pub read_planned : (address : Address) → IsPlanned IsGoodSelection triples config address → IsRead history mark config address
  read_planned address p =
      let own = address_of_page config.base p.selection p.k in
      let is : IsAddress (page_address config.base p.selection p.k) own = addresses config.base p.selection p.k s.is_config.base in
      let given_as = read_as config.rows p.selection in
      let g = given history mark config p.selection p.k own s.is_config p.good.kept p.low p.high is in
      let pages = pages_few (length (selected triples given_as)) config.page_size s.is_config.high (few_selected given_as) in
      let fits : p.k < 2 ^ 64 = omega (arith, pages, p.high) in
      let short : length (authority_of own) + length (target_of own) ≤ 4194000 = omega (arith, page_parts config.base p.selection p.k, address_short config.base p.selection p.k p.good.short fits, s.base) in
      subst (IsRead history mark config) (sym p.address_is)
      (read_of own given_as p.k g (passed_short config.rows p.selection p.good.short) (same_authority own (authorities config.base p.selection p.k own s.is_config.base is)) short)

  all_read : (list : List Address) → AllByRecursion (IsPlanned IsGoodSelection triples config) list → AllByRecursion (IsRead history mark config) list
  all_read [] h = tt
  all_read (address ∷ list) h = (read_planned address h.0, all_read list h.1)

  -- the addresses of a plan are those of such pages
  pub plan_planned : (block : ℕ) → 1 ≤ block → block ≤ MOST_ROWS → (patterns : List Pattern) (names : ℕ) → AllByRecursion IsAskable patterns → AllByRecursion (IsPlanned IsGoodSelection triples config) (plan (server_world block triples config) patterns (replicate names None))
  plan_planned block low high patterns names h =
      let data_set = good_triples forms triples (versions history version s.is_history).terms s.triples in
      addresses_planned IsGood (IsPlanned IsGoodSelection triples config) IsGoodSelection (server_world block triples config) (λ u. low_last (length (selected triples (read_as config.rows u))) config.page_size) low
      (λ p rows own some binds asked few short. good_for kept block triples config p rows own some binds asked (omega (arith, few, high)) short)
      (λ u k own least most. (page_planned IsGoodSelection triples config (good_passed config.rows) u k own least most, tt)) (λ u k. items_all IsGoodSelection triples config block (HasTerms IsGood) u k data_set) (length patterns) patterns (replicate names None) (patterns_good forms patterns h) (binds_none IsGood names)

  pub plan_read : (block : ℕ) → 1 ≤ block → block ≤ MOST_ROWS → (patterns : List Pattern) (names : ℕ) → AllByRecursion IsAskable patterns → AllByRecursion (IsRead history mark config) (plan (server_world block triples config) patterns (replicate names None))
  plan_read block low high patterns names h = all_read (plan (server_world block triples config) patterns (replicate names None)) (plan_planned block low high patterns names h)

  pub start_read : (start : Address) → authority_of start ≡ authority_of config.base → length (target_of start) ≤ LONGEST_START → is_answered history mark config start ≡ true → IsRead history mark config start
  start_read start same few is =
      let g = (answered history mark config start).0 is in
      read_of start g.selection g.k g.gives (target_short config g.selection g.k (target_of start) few g.gives.asks) same
      (omega (arith, few, ap length same, parts_short config.base, s.base))

  pub base_read : IsRead history mark config config.base
  base_read =
      let is : IsAddress (page_address config.base (all_of free) 1) config.base = subst (λ (text : List ℕ). IsAddress text config.base) (sym (base_address config.base)) s.is_config.base in
      let given_as = read_as config.rows (all_of free) in
      let g = given history mark config (all_of free) 1 config.base s.is_config free_kept (omega arith) (low_last (length (selected triples given_as)) config.page_size) is in
      read_of config.base given_as 1 g (free_short config.rows) refl (omega (arith, parts_short config.base, s.base))
