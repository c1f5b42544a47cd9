-- The page of a server of our own is the page that any reading takes.
use Rattle.std.proofs.Common.{◌≡◌, ℕ, Bool, true, false, List, [], ◌∷◌, ◌++◌, map, Option, Some, None, cond, refl, sym, ◌∙◌, ap, subst, append-nil}
use Rattle.std.specs.Prelude.{is_none, is_some, IfSome}
use Rattle.std.specs.Borrow.{Bor}
use Rattle.std.specs.List.{Contains, list_all, filter}
use Rattle.list_laws.proofs.Tests.{and_first, and_second}
use Rattle.rdf_terms.specs.Canon.{canon}
use Rattle.rdf_terms.specs.declared.term.Term.{Term}
use Rattle.rdf_terms.specs.declared.term.Triple.{Triple}
use Rattle.rdf_terms.specs.declared.term.Quad.{Quad}
use Rattle.rdf_terms.specs.declared.limits.TheConstants.{LONGEST_READ}
use Rattle.nquads_text.proofs.RoundTrip.{read_again}
use Rattle.tpf_base.specs.Addresses.{Address, IsAddress, address_text, authority_of}
use Rattle.template_fill.specs.Bodies.{in_default_graph}
use Rattle.fragment_page.specs.declared.page.Page.{Page}
use Rattle.control_triples.specs.Contents.{firsts, page_triples, HoldsBlank}
use Rattle.control_triples.specs.Controls.{IsCount, IsLeastForm, IsNext, IsVersion, IsTopic}
use Rattle.page_controls.specs.Controls.{IsFormOf}
use Rattle.own_controls.specs.declared.own.OwnControls.{OwnControls}
use Rattle.own_controls.specs.Metadata.{Parts, metadata}
use Rattle.own_controls.specs.Own.{IsOwn}
use Rattle.own_controls.proofs.Answering.{all_named}
use Rattle.own_controls.proofs.Controls.{body, texts_of, topic_is, count_is, next_is, no_next_is, least_is, version_is}
use Rattle.own_controls.proofs.Joined.{reads_behind, terms_short}
use Rattle.own_controls.proofs.Readable.{safe_metadata, all_readable}
use Rattle.control_reader.specs.Takes.{IsBody, Takes}
use Rattle.control_reader.specs.Ascending.{triples_of}
use Rattle.control_reader.specs.Blanks.{TakesTriples}
use Rattle.control_reader.specs.Own.{IsData, IsOwnForm, IsOwnNext, own_texts}

-- ---- the data

no_graph : (q : Quad) → is_none q.graph ≡ true → in_default_graph q.triple ≡ q
no_graph q h = by q.graph refl h
  where
    by : (g : Option Term) → q.graph ≡ g → is_none g ≡ true → in_default_graph q.triple ≡ q
    by None e h = λ i. record { triple = q.triple; graph = sym e i }
    by (Some g) e h = absurd (cc)

-- quads of the default graph are those of their triples
data_again : (quads : List Quad) → list_all (λ (q : Quad). is_none q.graph) quads ≡ true → map in_default_graph (triples_of quads) ≡ quads
data_again [] h = refl
data_again (q ∷ quads) h = λ i. no_graph q (and_first (is_none q.graph) _ h) i ∷ data_again quads (and_second (is_none q.graph) _ h) i

filter_both : (test : Quad → Bool) (xs ys : List Quad) → filter test (xs ++ ys) ≡ filter test xs ++ filter test ys
filter_both test [] ys = refl
filter_both test (x ∷ xs) ys = by (test x) (filter_both test xs ys)
  where
    by : (b : Bool) → filter test (xs ++ ys) ≡ filter test xs ++ filter test ys → cond b (x ∷ filter test (xs ++ ys)) (filter test (xs ++ ys)) ≡ cond b (x ∷ filter test xs) (filter test xs) ++ filter test ys
    by true e = ap (λ (l : List Quad). x ∷ l) e
    by false e = e

-- named quads give no triple of the page
data_alone : (quads named : List Quad) → filter (λ (q : Quad). is_none q.graph) named ≡ [] → page_triples quads ≡ page_triples (quads ++ named)
data_alone quads named none =
    ap (λ (l : List Quad). firsts (map (λ (q : Quad). q.triple) l)) (sym (filter_both (λ (q : Quad). is_none q.graph) quads named ∙ ap (λ (l : List Quad). filter (λ (q : Quad). is_none q.graph) quads ++ l) none ∙ append-nil (filter (λ (q : Quad). is_none q.graph) quads)))

-- ---- the next page

next_taken : (ts : List Triple) (back : Bool) (m : Parts) (authority : List ℕ) (text : Option (Bor (List ℕ))) (next : Option Address) → IfSome text (λ t. m.next ≡ t.now) → IsOwnNext authority text next
    → IsNext (body ts (is_some text) back m) m.page authority next
next_taken ts back m authority None None is own = no_next_is ts false back m refl authority
next_taken ts back m authority None (Some next) is own = absurd own
next_taken ts back m authority (Some text) None is own = absurd own
next_taken ts back m authority (Some text) (Some next) is own = next_is ts true back m refl authority next (subst (λ (t : List ℕ). IsAddress t next) (sym is) own.0) own.1

-- ---- the form

form_taken : (m : Parts) (template authority : List ℕ) → m.template ≡ template → (page : Page) → IsOwnForm template authority page.form → IsFormOf (texts_of m) page.form
unfolding texts_of
form_taken m template authority is page own = subst (λ (t : List ℕ). IsFormOf (own_texts t) page.form) (sym is) own.form

-- ---- the page

pub own_page : (bytes : List ℕ) (address : Address) (own : OwnControls) (quads : List Quad) (page : Page) → IsOwn bytes (address_text address) own → IsData own.front.now quads → TakesTriples quads page.triples
    → IsOwnForm own.template.now (authority_of address) page.form → IsOwnNext (authority_of address) own.next page.next → page.count ≡ own.count → page.version ≡ Some own.version → Takes bytes address page
own_page bytes address own quads page h read_data triples form next count version =
    let m = h.parts in
    let there = is_some own.next in
    let ts = triples_of quads in
    let named = metadata there h.back m in
    let all = quads ++ named in
    let same : body ts there h.back m ≡ all = ap (λ (l : List Quad). l ++ named) (data_again quads read_data.default) in
    let data_are = data_alone quads named (all_named there h.back m) in
    let text = read_again LONGEST_READ named (all_readable LONGEST_READ named (safe_metadata there h.back m h.safe).each (terms_short LONGEST_READ named h.short)) in
    let read = reads_behind LONGEST_READ own.front.now (canon named) quads named h.front read_data.body text in
    record {
      quads = all;
      topic = m.page;
      texts = texts_of m;
      controls = record {
        body = subst (λ (l : List ℕ). IsBody l all) (sym h.body_is) read;
        is_topic = subst (λ (q : List Quad). IsTopic q (address_text address) m.page) same (topic_is ts there h.back m (address_text address));
      };
      count = subst (λ (q : List Quad). IsCount q m.page page.count) same (subst (IsCount (body ts there h.back m) m.page) (h.count ∙ sym count) (count_is ts there h.back m h.few));
      least = subst (λ (q : List Quad). IsLeastForm q m.page (texts_of m)) same (least_is ts there h.back m);
      form = form_taken m own.template.now (authority_of address) h.template page form;
      next = subst (λ (q : List Quad). IsNext q m.page (authority_of address) page.next) same (next_taken ts h.back m (authority_of address) own.next page.next h.next next);
      home = form.home;
      version = subst (λ (q : List Quad). IsVersion q m.page page.version) same (subst (IsVersion (body ts there h.back m) m.page) (ap (λ (n : ℕ). Some n) h.version ∙ sym version) (version_is ts there h.back m h.early));
      triples = triples.triples_are ∙ data_are;
      no_blank = λ blank. triples.no_blank (subst (λ (l : List Triple). (t : Triple) × Contains l t × HoldsBlank t) (sym data_are) blank);
    }
