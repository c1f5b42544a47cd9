-- The lines of a page's metadata: the quads that they are of, and what is written of them.
use Rattle.std.proofs.Common.{◌≡◌, ℕ, ◌+◌, ◌-◌, ◌<◌, Bool, nat_lt, List, [], ◌∷◌, ◌++◌, length, take, drop, false, sym, ap, subst, ◌∙◌, arith, append_assoc, append-nil, length-append}
use Rattle.std.specs.Prelude.{codes, slice_index_or}
use Rattle.std.proofs.lemmas.Bool.{le-ltb, lt-ltb}
use Rattle.rdf_terms.specs.Canon.{canonical_line}
use Rattle.rdf_terms.specs.Fragments.{last_page_of}
use Rattle.rdf_terms.specs.declared.term.Quad.{Quad}
use Rattle.rdf_terms.specs.Selections.{Selection}
use Rattle.tpf_base.specs.Addresses.{Address, address_text}
use Rattle.template_fill.specs.Pages.{page_address, page_mark, page_pair, selection_text, template_text}
use Rattle.template_fill.specs.Metadata.{Config, graph_at, topic_quads, form_quads, version_quads, metadata_at, page_addresses, page_metadata}
use Rattle.hydra_controls.specs.declared.cut.Cut.{Cut}
use Rattle.hydra_controls.specs.declared.facts.PageFacts.{PageFacts}
use Rattle.hydra_controls.specs.Cuts.{Cuts}
use Rattle.hydra_controls.specs.Facts.{addresses_by, addresses_on, closing_of, counts_of, links_of, mapping_of, mappings_of, mark_of, next_of, page_text, previous_of, quads_of}

-- ---- the quads of what the lines speak of

regrouped : (a b c d e f g h i : List Quad) → a ++ (b ++ ((c ++ (d ++ e)) ++ (f ++ (g ++ (h ++ i))))) ≡ a ++ b ++ c ++ d ++ e ++ f ++ g ++ h ++ i
regrouped a b c d e f g h i = simp append_assoc

-- the quads with another text of the base
abbrev with_base : PageFacts → List ℕ → List Quad
with_base f base =
    topic_quads (graph_at (addresses_on f)) (addresses_on f).page (addresses_on f).first base
    ++ (form_quads (graph_at (addresses_on f)) (base ++ codes "{?subject,predicate,object}")
    ++ (mappings_of f ++ (counts_of f ++ (next_of f ++ (previous_of f ++ version_quads (graph_at (addresses_on f)) base f.version)))))

of_base : (f : PageFacts) (base : Address) → with_base f (address_text base) ≡ metadata_at base (addresses_on f) (nat_lt f.number f.last) (nat_lt 1 f.number) f.count f.version
unfolding metadata_at
of_base f base =
    let graph = graph_at (addresses_on f) in
    regrouped (topic_quads graph (addresses_on f).page (addresses_on f).first (address_text base)) (form_quads graph (template_text base)) (mapping_of f (codes "s") (codes "subject")) (mapping_of f (codes "p") (codes "predicate"))
    (mapping_of f (codes "o") (codes "object")) (counts_of f) (next_of f) (previous_of f) (version_quads graph (address_text base) f.version)

facts_quads : (f : PageFacts) (base : Address) → f.base.now ≡ address_text base → quads_of f ≡ metadata_at base (addresses_on f) (nat_lt f.number f.last) (nat_lt 1 f.number) f.count f.version
unfolding quads_of links_of closing_of
facts_quads f base is = ap (with_base f) is ∙ of_base f base

pub facts_are : (f : PageFacts) (base first : Address) (value : List Quad) → f.base.now ≡ address_text base → f.first.now ≡ address_text first
    → metadata_at base (addresses_by (address_text first) f.fixed f.number) (nat_lt f.number f.last) (nat_lt 1 f.number) f.count f.version ≡ value → quads_of f ≡ value
facts_are f base first value of_first of_page is =
    facts_quads f base of_first ∙ ap (λ (t : List ℕ). metadata_at base (addresses_by t f.fixed f.number) (nat_lt f.number f.last) (nat_lt 1 f.number) f.count f.version) of_page ∙ is

-- ---- the addresses

page_is : (base : Address) (s : Selection) (first : List ℕ) (fixed : Bool) (k : ℕ) → first ≡ page_address base s 1 → mark_of fixed ≡ page_mark (selection_text s) → page_text first fixed k ≡ page_address base s k
unfolding page_address
page_is base s first fixed k is mark =
    let pair = page_pair (page_mark (selection_text s)) k in
    ap (λ (m : ℕ). first ++ page_pair m k) mark
    ∙ ap (λ (l : List ℕ). l ++ pair) is
    ∙ append_assoc (address_text base) (selection_text s ++ []) pair
    ∙ ap (λ (l : List ℕ). address_text base ++ (l ++ pair)) (append-nil (selection_text s))

addresses_are : (base : Address) (s : Selection) (first : List ℕ) (fixed : Bool) (k : ℕ) → first ≡ page_address base s 1 → mark_of fixed ≡ page_mark (selection_text s) → addresses_by first fixed k ≡ page_addresses base s k
unfolding page_addresses
addresses_are base s first fixed k is mark = λ i. record {
  page = page_is base s first fixed k is mark i;
  first = page_is base s first fixed 1 is mark i;
  next = page_is base s first fixed (k + 1) is mark i;
  previous = page_is base s first fixed (k - 1) is mark i;
}

mark_is : (base places : List ℕ) → mark_of (nat_lt (length base) (length (base ++ (places ++ [])))) ≡ page_mark places
mark_is base [] = ap mark_of (le-ltb (length base) (length (base ++ [])) (omega (arith, length-append base [])))
mark_is base (b ∷ places) = ap mark_of (lt-ltb (length base) (length (base ++ (b ∷ (places ++ [])))) (omega (arith, length-append base (b ∷ (places ++ [])))))

mark_by : (base : Address) (s : Selection) → mark_of (nat_lt (length (address_text base)) (length (page_address base s 1))) ≡ page_mark (selection_text s)
unfolding page_address
mark_by base s = mark_is (address_text base) (selection_text s)

pub lines_are : (config : Config) (s : Selection) (k count version last : ℕ) (base first : Address) (fixed : Bool) → base ≡ config.base → address_text first ≡ page_address config.base s 1
    → fixed ≡ nat_lt (length (address_text base)) (length (address_text first)) → last ≡ last_page_of count config.page_size
    → metadata_at base (addresses_by (address_text first) fixed k) (nat_lt k last) (nat_lt 1 k) count version ≡ page_metadata config s k count version
unfolding page_metadata
lines_are config s k count version last base first fixed of_base of_first of_fixed of_last =
    let lengths : nat_lt (length (address_text base)) (length (address_text first)) ≡ nat_lt (length (address_text config.base)) (length (page_address config.base s 1)) =
    λ i. nat_lt (length (address_text (of_base i))) (length (of_first i)) in
    let mark : mark_of fixed ≡ page_mark (selection_text s) = ap mark_of (of_fixed ∙ lengths) ∙ mark_by config.base s in
    let addresses = addresses_are config.base s (address_text first) fixed k of_first mark in
    λ i. metadata_at (of_base i) (addresses i) (nat_lt k (of_last i)) (nat_lt 1 k) count version

-- ---- one line

pub within : (quads value : List Quad) (i : ℕ) → quads ≡ value → i < length value → i < length quads
within quads value i same h = subst (λ (l : List Quad). i < length l) (sym same) h

cut_is : (from most : ℕ) (text old new : List ℕ) (after : Cut) → Cuts (record { skip = from; room = most; more = false }) after text old new → (new ≡ old ++ take most (drop from text)) × (after.more ≡ nat_lt most (length text - from))
cut_is from most text old new after h = (h.appended, ap (λ (c : Cut). c.more) h.behind)

pub placed_line : (quads value : List Quad) (i : ℕ) (d : Quad) (text : List ℕ) → quads ≡ value → canonical_line (slice_index_or quads i d) ≡ text → canonical_line (slice_index_or value i d) ≡ text
placed_line quads value i d text same is = ap (λ (l : List Quad). canonical_line (slice_index_or l i d)) (sym same) ∙ is

-- a part of a line was appended
pub part_appended : (from most : ℕ) (before after : Cut) (old new text line : List ℕ) → before ≡ record { skip = from; room = most; more = false } → Cuts before after text old new → line ≡ text
    → (new ≡ old ++ take most (drop from line)) × (after.more ≡ nat_lt most (length line - from))
part_appended from most before after old new text line begun written is =
    let own = cut_is from most text old new after (subst (λ (c : Cut). Cuts c after text old new) begun written) in
    (own.0 ∙ ap (λ (l : List ℕ). old ++ take most (drop from l)) (sym is), own.1 ∙ ap (λ (l : List ℕ). nat_lt most (length l - from)) (sym is))
