-- The answer that is a page, as it is found before its body is made.
use Rattle.std.proofs.Common.{◌≡◌, ℕ, ◌-◌, ◌*◌, ◌<◌, ◌≤◌, ◌^◌, ◌++◌, Bool, true, false, List, [], ◌∷◌, map, length, drop, Result, Ok, Err, refl, ap, ap₂, sym, subst, ◌∙◌, arith, if◌then◌else◌, le-leb, length-append, length-take}
use Rattle.std.specs.Prelude.{nat_le, IfOk, codes}
use Rattle.std.specs.List.{concat}
use Rattle.std.proofs.lemmas.List.{length-map}
use Rattle.rdf_terms.specs.declared.term.Triple.{Triple}
use Rattle.rdf_terms.specs.declared.term.Quad.{Quad}
use Rattle.rdf_terms.specs.declared.slots.Slots.{Slots}
use Rattle.rdf_terms.specs.Selections.{Selection, all_of, selected, selected_last, selected_page}
use Rattle.triple_table.specs.declared.ids.IdTriple.{IdTriple}
use Rattle.triple_table.specs.declared.ids.Range.{Range}
use Rattle.triple_table.specs.Stored.{Stored, held_terms, listed, triple_at}
use Rattle.fragment_pages.specs.declared.view.PageView.{PageView}
use Rattle.fragment_pages.specs.Pages.{IsPage, IsPageNumber, shown}
use Rattle.restricted_pages.specs.declared.page.RestrictedPage.{RestrictedPage}
use Rattle.restricted_pages.specs.Pages.{IsSelectedNumber, IsSelectedPage, chosen}
use Rattle.template_fill.specs.Metadata.{page_metadata}
use Rattle.tpf_base.specs.Decimals.{decimal_text}
use Rattle.tpf_base.proofs.DecimalTexts.{decimal_text-short}
use Rattle.template_fill.specs.HttpAnswer as definitions
use Rattle.template_fill.specs.HttpAnswer.{refusal}
use Rattle.page_responses.specs.declared.limits.TheConstants.{LONGEST_PART}
use Rattle.page_responses.specs.declared.status.Status.{Status}
use Rattle.page_responses.specs.declared.status.Status.TheVariants.{NotFound}
use Rattle.page_responses.specs.declared.head.MediaType.TheVariants.{PlainText}
use Rattle.page_responses.specs.declared.pages.Opened.{Opened}
use Rattle.page_responses.specs.declared.rest.Rest.TheVariants as rests
use Rattle.page_responses.specs.declared.rest.PageTriples.{PageTriples}
use Rattle.page_responses.specs.declared.rest.PageTriples.TheVariants.{Part, Listed}
use Rattle.page_responses.specs.Statuses.{body_text, code, media_of, version_line}
use Rattle.page_responses.specs.Lines.{triple_lines}
use Rattle.page_responses.specs.Serving.{Serving, data_of}
use Rattle.page_responses.specs.Pages.{body_at}
use Rattle.page_responses.specs.PageRests.{ArePart, IsPart, triples_of}
use Rattle.page_responses.specs.Rests.{IsWithin, rest_text}
use Rattle.page_responses.specs.Opened.{OpensNumber, OpensPage, lines_opened}
use Rattle.page_responses.proofs.StatusLaws.{body_is}
use Rattle.page_responses.proofs.PageLaws.{page_length, page_text_is}

-- ---- an answer with a page

page_opened : (server : Serving) (s : Selection) (page : ℕ) (triples : PageTriples) (a : ℕ) (quads : List Quad) → ArePart server.table triples
    → triples_of server.table triples ≡ selected_page (data_of server) s page server.config.page_size
    → a ≡ length (concat (triple_lines (triples_of server.table triples)))
    → quads ≡ page_metadata server.config s page (length (selected (data_of server) s)) server.version
    → OpensPage server s page (lines_opened server.table triples a quads)
unfolding rest_text
page_opened server s page triples a quads within same size meta = record {
  status = refl;
  media = refl;
  length = page_length server s page triples quads a same meta size;
  body = page_text_is server s page triples quads same meta;
  range = within;
}

opens_lines : {E : Type 0} (server : Serving) (s : Selection) (page : ℕ) (triples : PageTriples) (a : ℕ) (quads : List Quad) (r : Result Opened E) → ArePart server.table triples
    → triples_of server.table triples ≡ selected_page (data_of server) s page server.config.page_size
    → a ≡ length (concat (triple_lines (triples_of server.table triples)))
    → quads ≡ page_metadata server.config s page (length (selected (data_of server) s)) server.version
    → IfOk r (λ (o : Opened). o ≡ lines_opened server.table triples a quads) → IfOk r (OpensPage server s page)
opens_lines server s page triples a quads (Ok o) within same size meta opened = subst (OpensPage server s page) (sym opened) (page_opened server s page triples a quads within same size meta)
opens_lines server s page triples a quads (Err e) within same size meta opened = tt

module _ {E : Type 0} (server : Serving) (slots : Slots) (page : ℕ) (number a : ℕ) (quads : List Quad) (r : Result Opened E) (of_number : number ≡ server.version) where
  -- a range of the table
  pub opens_part : (view : PageView) (table : Stored) (range : Range) → table ≡ server.table → IsPage server.table slots page server.config.page_size view
      → IsPart table range → listed table range ≡ shown table view
      → quads ≡ page_metadata server.config (all_of slots) page view.count number
      → a ≡ length (concat (triple_lines (listed table range)))
      → IfOk r (λ (o : Opened). o ≡ lines_opened server.table (Part range) a quads) → IfOk r (OpensPage server (all_of slots) page)
  opens_part view table range of_table is within lists meta size opened =
      opens_lines server (all_of slots) page (Part range) a quads r
      (subst (λ (t : Stored). IsPart t range) of_table within)
      (subst (λ (t : Stored). listed t range ≡ shown t view) of_table lists ∙ is.triples)
      (size ∙ ap (λ (t : Stored). length (concat (triple_lines (listed t range)))) of_table)
      (meta ∙ ap (page_metadata server.config (all_of slots) page view.count) of_number ∙ ap (λ (n : ℕ). page_metadata server.config (all_of slots) page n server.version) is.count)
      opened

  -- triples that are listed
  pub opens_listed : (rows : List Slots) (found : RestrictedPage) (table : Stored) (ids : List IdTriple) → table ≡ server.table → ids ≡ found.triples.items → IsSelectedPage server.table slots rows page server.config.page_size found
      → quads ≡ page_metadata server.config (chosen slots rows) page found.count number
      → a ≡ length (concat (triple_lines (map (triple_at (held_terms table)) ids)))
      → IfOk r (λ (o : Opened). o ≡ lines_opened server.table (Listed found.triples 0) a quads) → IfOk r (OpensPage server (chosen slots rows) page)
  opens_listed rows found table ids of_table of_ids is meta size opened =
      opens_lines server (chosen slots rows) page (Listed found.triples 0) a quads r is.ids is.triples
      (size ∙ ap₂ (λ (t : Stored) (l : List IdTriple). length (concat (triple_lines (map (triple_at (held_terms t)) l)))) of_table of_ids)
      (meta ∙ ap (page_metadata server.config (chosen slots rows) page found.count) of_number ∙ ap (λ (n : ℕ). page_metadata server.config (chosen slots rows) page n server.version) is.count)
      opened

-- a page has at most as many triples as pages have
pub listed_few : (server : Serving) (slots : Slots) (rows : List Slots) (page : ℕ) (found : RestrictedPage) → IsSelectedPage server.table slots rows page server.config.page_size found → length found.triples.items ≤ server.config.page_size
listed_few server slots rows page found is =
    let f : IdTriple → Triple = triple_at (held_terms server.table) in
    let size = server.config.page_size in
    let behind = drop ((page - 1) * size) (selected (data_of server) (chosen slots rows)) in
    omega (arith, sym (length-map found.triples.items f), ap (λ (l : List Triple). length l) is.triples, length-take size behind)

-- an answer without a page
abbrev pub status_opened : Status → Opened
status_opened status = record { status = status; media = PlainText; length = length (body_text status); body = rests.Line status }

-- ---- the number of a version

pub short_version : (number : ℕ) → number < 2 ^ 64 → length (version_line number) ≤ LONGEST_PART
unfolding version_line
short_version number fits =
    let few = decimal_text-short number 20 (omega arith) (in_digits number fits) in
    omega (arith, few, length-append (codes "version ") (decimal_text number ++ 10 ∷ []), length-append (decimal_text number) (10 ∷ []))
  where
    in_digits : (n : ℕ) → n < 2 ^ 64 → n < 10 ^ 20
    in_digits n fits = omega arith

-- ---- a page by its number

by_test : (server : Serving) (s : Selection) (page : ℕ) (o : Opened) (test : Bool) → nat_le page (selected_last (data_of server) s server.config.page_size) ≡ test
    → code o.status ≡ (if test then record { status = 200; media_type = definitions.NQuads; body = body_at server s page } else refusal 404).status
    → media_of o.media ≡ (if test then record { status = 200; media_type = definitions.NQuads; body = body_at server s page } else refusal 404).media_type
    → o.length ≡ length (if test then record { status = 200; media_type = definitions.NQuads; body = body_at server s page } else refusal 404).body
    → rest_text o.body ≡ (if test then record { status = 200; media_type = definitions.NQuads; body = body_at server s page } else refusal 404).body
    → IsWithin o.body
    → OpensNumber server s page o
by_test server s page o test is status media size body within = record {
  status = status ∙ sym (ap (λ (t : Bool). (if t then record { status = 200; media_type = definitions.NQuads; body = body_at server s page } else refusal 404).status) is);
  media = media ∙ sym (ap (λ (t : Bool). (if t then record { status = 200; media_type = definitions.NQuads; body = body_at server s page } else refusal 404).media_type) is);
  length = size ∙ sym (ap (λ (t : Bool). length (if t then record { status = 200; media_type = definitions.NQuads; body = body_at server s page } else refusal 404).body) is);
  body = body ∙ sym (ap (λ (t : Bool). (if t then record { status = 200; media_type = definitions.NQuads; body = body_at server s page } else refusal 404).body) is);
  range = within;
}

-- it is one of the pages
abbrev IsThere : Serving → Selection → ℕ → Type 0
IsThere server s page = page ≤ selected_last (data_of server) s server.config.page_size

given_page : (server : Serving) (s : Selection) (page : ℕ) (o : Opened) → IsThere server s page → OpensPage server s page o → OpensNumber server s page o
given_page server s page o within opens =
    by_test server s page o true (le-leb page (selected_last (data_of server) s server.config.page_size) within) opens.status opens.media opens.length opens.body opens.range

opens_there : {E : Type 0} (server : Serving) (s : Selection) (page : ℕ) (r : Result Opened E) → IsThere server s page → IfOk r (OpensPage server s page) → IfOk r (OpensNumber server s page)
opens_there server s page (Ok o) within opens = given_page server s page o within opens
opens_there server s page (Err e) within opens = tt

past_last : (server : Serving) (s : Selection) (page : ℕ) → (IsThere server s page → ⊥) → nat_le page (selected_last (data_of server) s server.config.page_size) ≡ false
past_last server s page none = not_within page (selected_last (data_of server) s server.config.page_size) none
  where
    not_within : (m n : ℕ) → (m ≤ n → ⊥) → nat_le m n ≡ false
    not_within m n h = grind (arith, h)

past_opened : (server : Serving) (s : Selection) (page : ℕ) → (IsThere server s page → ⊥) → OpensNumber server s page (status_opened NotFound)
unfolding rest_text
past_opened server s page none = by_test server s page (status_opened NotFound) false (past_last server s page none) refl refl (ap (λ (l : List ℕ). length l) (body_is NotFound)) refl tt

-- ---- of a fragment

module _ (server : Serving) (slots : Slots) (page : ℕ) (table : Stored) (size : ℕ) (of_table : table ≡ server.table) (of_size : size ≡ server.config.page_size) where
  pub opens_given : {E : Type 0} (r : Result Opened E) → IsPageNumber table slots page size → IfOk r (OpensPage server (all_of slots) page) → IfOk r (OpensNumber server (all_of slots) page)
  opens_given r number opens =
      opens_there server (all_of slots) page r (subst (λ (t : Stored). IsPageNumber t slots page server.config.page_size) of_table (subst (IsPageNumber table slots page) of_size number)).last opens

  pub opens_past : (o : Opened) → 1 ≤ page → (IsPageNumber table slots page size → ⊥) → o ≡ status_opened NotFound → OpensNumber server (all_of slots) page o
  opens_past o some none opened =
      let no = subst (λ (n : ℕ). IsPageNumber server.table slots page n → ⊥) of_size (subst (λ (t : Stored). IsPageNumber t slots page size → ⊥) of_table none) in
      subst (OpensNumber server (all_of slots) page) (sym opened) (past_opened server (all_of slots) page (λ h. no (record { first = some; last = h })))

-- ---- restricted by rows

pub restricted_past : (server : Serving) (slots : Slots) (rows : List Slots) (page : ℕ) (o : Opened) → 1 ≤ page → (IsSelectedNumber server.table slots rows page server.config.page_size → ⊥)
    → o ≡ status_opened NotFound → OpensNumber server (chosen slots rows) page o
restricted_past server slots rows page o some none opened =
    subst (OpensNumber server (chosen slots rows) page) (sym opened) (past_opened server (chosen slots rows) page (λ h. none (record { first = some; last = h })))
