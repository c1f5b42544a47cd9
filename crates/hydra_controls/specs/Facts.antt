-- The metadata of a page over what they speak of, in parts.
use Rattle.std.specs.Prelude.{ℕ, ◌≡◌, ◌+◌, ◌-◌, Bool, true, false, nat_lt, List, ◌++◌, codes}
use Rattle.rdf_terms.specs.Iri.{is_iri}
use Rattle.rdf_terms.specs.declared.term.Quad.{Quad}
use Rattle.rdf_terms.specs.declared.term.Term.TheVariants.{Iri}
use Rattle.tpf_base.specs.Decimals.{decimal_text}
use Rattle.template_fill.specs.Pages.{page_pair}
use Rattle.template_fill.specs.Metadata.{PageAddresses, graph_at, hydra, owl, plain, statement, topic_quads, form_quads, mapping_quads, count_quads, link_quads, version_quads}
use Rattle.hydra_controls.specs.declared.facts.PageFacts.{PageFacts}

-- & where a place is fixed, and ? else
abbrev pub mark_of : Bool → ℕ
mark_of true = 38
mark_of false = 63

-- the address of page k: that of page 1, and the page above 1
abbrev pub page_text : List ℕ → Bool → ℕ → List ℕ
page_text first fixed k = first ++ page_pair (mark_of fixed) k

-- the addresses of page k
abbrev pub addresses_by : List ℕ → Bool → ℕ → PageAddresses
addresses_by first fixed k = record {
  page = page_text first fixed k;
  first = page_text first fixed 1;
  next = page_text first fixed (k + 1);
  previous = page_text first fixed (k - 1);
}

-- the addresses on the page that is told of
abbrev pub addresses_on : PageFacts → PageAddresses
addresses_on f = addresses_by f.first.now f.fixed f.number

-- the base and the address of page 1 are IRIs
pub record AreFacts (f : PageFacts) : Type 0 where
  pub base : is_iri f.base.now ≡ true
  pub first : is_iri f.first.now ≡ true

-- ---- the parts

abbrev pub topic_of : PageFacts → List Quad
topic_of f = topic_quads (graph_at (addresses_on f)) (addresses_on f).page (addresses_on f).first f.base.now

abbrev pub form_of : PageFacts → List Quad
form_of f = form_quads (graph_at (addresses_on f)) (f.base.now ++ codes "{?subject,predicate,object}")

abbrev pub mapping_of : PageFacts → List ℕ → List ℕ → List Quad
mapping_of f label name = mapping_quads (graph_at (addresses_on f)) label name

abbrev pub mappings_of : PageFacts → List Quad
mappings_of f = mapping_of f (codes "s") (codes "subject") ++ (mapping_of f (codes "p") (codes "predicate") ++ mapping_of f (codes "o") (codes "object"))

abbrev pub counts_of : PageFacts → List Quad
counts_of f = count_quads (graph_at (addresses_on f)) (addresses_on f).page (addresses_on f).first f.count

abbrev pub next_of : PageFacts → List Quad
next_of f = link_quads (nat_lt f.number f.last) (graph_at (addresses_on f)) (addresses_on f).page (codes "next") (addresses_on f).next

abbrev pub previous_of : PageFacts → List Quad
previous_of f = link_quads (nat_lt 1 f.number) (graph_at (addresses_on f)) (addresses_on f).page (codes "previous") (addresses_on f).previous

abbrev pub version_of : PageFacts → List Quad
version_of f = version_quads (graph_at (addresses_on f)) f.base.now f.version

-- the link to the next page, where there is one
abbrev pub next_quad : PageFacts → Quad
next_quad f = statement (graph_at (addresses_on f)) (Iri (addresses_on f).page) (hydra (codes "next")) (Iri (addresses_on f).next)

-- the link to the previous page, where there is one
abbrev pub previous_quad : PageFacts → Quad
previous_quad f = statement (graph_at (addresses_on f)) (Iri (addresses_on f).page) (hydra (codes "previous")) (Iri (addresses_on f).previous)

-- the statement of the version
abbrev pub version_quad : PageFacts → Quad
version_quad f = statement (graph_at (addresses_on f)) (Iri (f.base.now ++ codes "#dataset")) (owl (codes "versionInfo")) (plain (decimal_text f.version))

-- the link to the previous page, and the version
unfoldable pub closing_of : PageFacts → List Quad
closing_of f = previous_of f ++ version_of f

-- what follows the counts
unfoldable pub links_of : PageFacts → List Quad
links_of f = next_of f ++ closing_of f

-- ---- the whole

unfoldable pub quads_of : PageFacts → List Quad
quads_of f = topic_of f ++ (form_of f ++ (mappings_of f ++ (counts_of f ++ links_of f)))
