-- What a page of tpf's own server says of itself, over texts in place of addresses.
use Rattle.std.specs.Prelude.{ℕ, Bool, List, ◌++◌, codes, Option, Some, None}
use Rattle.std.specs.Borrow.{Bor}
use Rattle.rdf_terms.specs.declared.term.Quad.{Quad}
use Rattle.template_fill.specs.Metadata.{topic_quads, form_quads, mapping_quads, count_quads, link_quads, version_quads}

-- the texts of the addresses, the count and the version
pub record Parts : Type 0 where
  pub graph : List ℕ
  pub page : List ℕ
  pub first : List ℕ
  pub base : List ℕ
  pub template : List ℕ
  pub next : List ℕ
  pub previous : List ℕ
  pub count : ℕ
  pub version : ℕ

-- the quads, with a next page and with a previous one where there is such
unfoldable pub metadata : Bool → Bool → Parts → List Quad
metadata there back m =
    topic_quads m.graph m.page m.first m.base
    ++ form_quads m.graph m.template
    ++ mapping_quads m.graph (codes "s") (codes "subject")
    ++ mapping_quads m.graph (codes "p") (codes "predicate")
    ++ mapping_quads m.graph (codes "o") (codes "object")
    ++ count_quads m.graph m.page m.first m.count
    ++ link_quads there m.graph m.page (codes "next") m.next
    ++ link_quads back m.graph m.page (codes "previous") m.previous
    ++ version_quads m.graph m.base m.version

-- ---- parts of the metadata

-- the graph of a page's metadata
abbrev pub graph_of : List ℕ → List ℕ
graph_of page = page ++ codes "#metadata"

-- for which places the variables of the form stand
unfoldable pub mappings : List ℕ → List Quad
mappings graph = mapping_quads graph (codes "s") (codes "subject") ++ (mapping_quads graph (codes "p") (codes "predicate") ++ mapping_quads graph (codes "o") (codes "object"))

-- the text of a link's target, and that of the page where there is no link
abbrev pub link_target : List ℕ → Option (Bor (List ℕ)) → List ℕ
link_target page None = page
link_target page (Some target) = target.now
