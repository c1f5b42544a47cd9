-- A page as lines: of the triples that it shows, and of its metadata.
use Rattle.std.proofs.Common.{◌≡◌, ℕ, zero, suc, ◌+◌, ◌-◌, ◌*◌, ◌≤◌, List, [], ◌∷◌, ◌++◌, map, length, take, drop, refl, ap, ap₂, sym, ◌∙◌, arith, length-append, length-take, length-drop}
use Rattle.std.specs.List.{concat}
use Rattle.std.proofs.lemmas.List.{map-append}
use Rattle.rdf_terms.specs.declared.term.Triple.{Triple}
use Rattle.rdf_terms.specs.declared.term.Quad.{Quad}
use Rattle.rdf_terms.specs.declared.slots.Slots.{Slots}
use Rattle.rdf_terms.specs.Canon.{canon, canonical_line}
use Rattle.rdf_terms.specs.Fragments.{fragment}
use Rattle.rdf_terms.specs.Selections.{Selection, selected, selected_page}
use Rattle.triple_table.specs.declared.ids.Row.{Row}
use Rattle.triple_table.specs.declared.ids.Range.{Range}
use Rattle.triple_table.specs.Rows.{id_triple_of}
use Rattle.triple_table.specs.Stored.{Stored, IsRange, listed, rows_in, triple_at, triples_in}
use Rattle.fragment_pages.specs.declared.view.PageView.{PageView}
use Rattle.fragment_pages.specs.Pages.{IsPage, shown}
use Rattle.template_fill.specs.Metadata.{page_metadata}
use Rattle.template_fill.specs.Bodies.{in_default_graph}
use Rattle.page_responses.specs.Lines.{quad_lines, triple_lines}
use Rattle.page_responses.specs.PageRests.{IsPart, page_text, triples_of}
use Rattle.page_responses.specs.declared.rest.PageTriples.{PageTriples}
use Rattle.page_responses.specs.Serving.{Serving, data_of}
use Rattle.page_responses.specs.Pages.{body_at}
use Rattle.page_responses.proofs.PartLaws.{concat_more}

-- ---- a part of a range

taken_none : {A B : Type 0} (f : A → B) (n : ℕ) → take n (map f []) ≡ map f (take n [])
taken_none f zero = refl
taken_none f (suc n) = refl

taken_front : {A B : Type 0} (f : A → B) (rows : List A) (n m : ℕ) → n ≤ m → take n (map f (take m rows)) ≡ map f (take n rows)
taken_front f rows zero m h = refl
taken_front f rows (suc n) zero h = absurd (omega arith)
taken_front f [] (suc n) (suc m) h = refl
taken_front {B = B} f (x ∷ rows) (suc n) (suc m) h = ap (λ (l : List B). f x ∷ l) (taken_front f rows n m (omega arith))

taken_part : {A B : Type 0} (f : A → B) (rows : List A) (k n m : ℕ) → k + n ≤ m → take n (drop k (map f (take m rows))) ≡ map f (take n (drop k rows))
taken_part f rows zero n m h = taken_front f rows n m (omega arith)
taken_part f rows (suc k) n zero h = absurd (omega arith)
taken_part f [] (suc k) n (suc m) h = taken_none f n
taken_part f (x ∷ rows) (suc k) n (suc m) h = taken_part f rows k n m (omega arith)

dropped : {A : Type 0} (xs : List A) (a b : ℕ) → drop (a + b) xs ≡ drop b (drop a xs)
dropped xs zero b = let e : 0 + b ≡ b = omega arith in ap (λ (n : ℕ). drop n xs) e
dropped [] (suc a) zero = let e : suc a + 0 ≡ suc a = omega arith in ap (λ (n : ℕ). drop n []) e
dropped [] (suc a) (suc b) = let e : suc a + suc b ≡ suc (a + suc b) = omega arith in ap (λ (n : ℕ). drop n []) e
dropped (x ∷ xs) (suc a) b = let e : suc a + b ≡ suc (a + b) = omega arith in ap (λ (n : ℕ). drop n (x ∷ xs)) e ∙ dropped xs a b

-- the range of what a view shows
abbrev pub part_of : PageView → Range
part_of view = record { order = view.range.order; from = view.range.from + view.from; to = view.range.from + view.to }

pub part_listed : (s : Stored) (view : PageView) → view.from ≤ view.to → view.to ≤ length (listed s view.range) → length (listed s view.range) ≡ view.range.to - view.range.from
    → listed s (part_of view) ≡ shown s view
part_listed s view order within count =
    let f : Row → Triple = λ (row : Row). triple_at s.terms (id_triple_of view.range.order row) in
    let rows = rows_in s view.range.order in
    let e : (view.range.from + view.to) - (view.range.from + view.from) ≡ view.to - view.from = omega arith in
    ap₂ (λ (n : ℕ) (l : List Row). map f (take n l)) e (dropped rows view.range.from view.from)
    ∙ sym (taken_part f (drop view.range.from rows) view.from (view.to - view.from) (view.range.to - view.range.from) (omega (arith, order, within, count)))

pub part_is_range : (s : Stored) (view : PageView) → IsRange s view.range → view.from ≤ view.to → view.to ≤ length (listed s view.range) → length (listed s view.range) ≡ view.range.to - view.range.from
    → IsRange s (part_of view)
part_is_range s view range order within count = record { order = omega (arith, order); within = omega (arith, range.order, range.within, within, count) }

pub part_is_part : (s : Stored) (view : PageView) → IsRange s view.range → view.from ≤ view.to → view.to ≤ length (listed s view.range) → length (listed s view.range) ≡ view.range.to - view.range.from
    → IsPart s (part_of view)
part_is_part s view range order within count = record {
  range = part_is_range s view range order within count;
  lists = omega (arith, ap (λ (l : List Triple). length l) (part_listed s view order within count), length-take (view.to - view.from) (drop view.from (listed s view.range)), length-drop view.from (listed s view.range), order, within);
}

pub part_is_few : (s : Stored) (slots : Slots) (k size : ℕ) (view : PageView) → IsPage s slots k size view → (view.range.from + view.to) - (view.range.from + view.from) ≤ size
part_is_few s slots k size view page =
    let whole = listed s view.range in
    let items = fragment (triples_in s) slots in
    omega (arith, ap (λ (l : List Triple). length l) page.triples, length-take (view.to - view.from) (drop view.from whole), length-drop view.from whole, length-take size (drop ((k - 1) * size) items), page.order, page.within)

-- ---- the lines of a page

canon_is : (quads : List Quad) → canon quads ≡ concat (quad_lines quads)
canon_is [] = refl
canon_is (q ∷ quads) = ap (λ (l : List ℕ). canonical_line q ++ l) (canon_is quads)

default_lines : (triples : List Triple) → quad_lines (map in_default_graph triples) ≡ triple_lines triples
default_lines [] = refl
default_lines (t ∷ triples) = ap (λ (l : List (List ℕ)). canonical_line (in_default_graph t) ∷ l) (default_lines triples)

lines_join : (triples : List Triple) (quads : List Quad) → quad_lines (map in_default_graph triples ++ quads) ≡ triple_lines triples ++ quad_lines quads
lines_join triples quads = map-append canonical_line (map in_default_graph triples) quads ∙ ap (λ (l : List (List ℕ)). l ++ quad_lines quads) (default_lines triples)

module _ (server : Serving) (s : Selection) (page : ℕ) where
  pub page_text_is : (triples : PageTriples) (quads : List Quad) → triples_of server.table triples ≡ selected_page (data_of server) s page server.config.page_size
      → quads ≡ page_metadata server.config s page (length (selected (data_of server) s)) server.version
      → page_text (record { begun = []; table = server.table; triples = triples; quads = quads }) ≡ body_at server s page
  unfolding page_text body_at
  page_text_is triples quads same meta =
      let shown = selected_page (data_of server) s page server.config.page_size in
      let metadata = page_metadata server.config s page (length (selected (data_of server) s)) server.version in
      ap₂ (λ (l : List Triple) (qs : List Quad). concat (triple_lines l) ++ concat (quad_lines qs)) same meta
      ∙ sym (concat_more (triple_lines shown) (quad_lines metadata))
      ∙ ap concat (sym (lines_join shown metadata))
      ∙ sym (canon_is (map in_default_graph shown ++ metadata))

  pub page_length : (triples : PageTriples) (quads : List Quad) (a : ℕ) → triples_of server.table triples ≡ selected_page (data_of server) s page server.config.page_size
      → quads ≡ page_metadata server.config s page (length (selected (data_of server) s)) server.version
      → a ≡ length (concat (triple_lines (triples_of server.table triples)))
      → a + length (concat (quad_lines quads)) ≡ length (body_at server s page)
  unfolding page_text
  page_length triples quads a same meta of_triples =
      let lines = concat (triple_lines (triples_of server.table triples)) in
      let whole : lines ++ concat (quad_lines quads) ≡ body_at server s page = page_text_is triples quads same meta in
      omega (arith, of_triples, length-append lines (concat (quad_lines quads)), ap (λ (l : List ℕ). length l) whole)
