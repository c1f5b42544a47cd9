-- Texts and terms that N-Quads text can give.
use Rattle.std.specs.Prelude.{ℕ, ◌≡◌, ◌≤◌, true, List, length, Option, Some, None, ⊤}
use Rattle.std.specs.List.{list_all}
use Rattle.std.specs.Char.{is_ascii}
use Rattle.rdf_terms.specs.Iri.{is_iri}
use Rattle.rdf_terms.specs.Canon.{canonical_term}
use Rattle.rdf_terms.specs.declared.term.Term.{Term}
use Rattle.rdf_terms.specs.declared.term.Quad.{Quad}
use Rattle.own_controls.specs.Metadata.{Parts}

-- an IRI of ASCII
pub record IsWeb (text : List ℕ) : Type 0 where
  pub iri : is_iri text ≡ true
  pub ascii : list_all is_ascii text ≡ true

-- texts that can be read
pub record HasSafeTexts (m : Parts) : Type 0 where
  pub graph : IsWeb m.graph
  pub page : IsWeb m.page
  pub first : IsWeb m.first
  pub base : IsWeb m.base
  pub template : list_all is_ascii m.template ≡ true
  pub next : IsWeb m.next
  pub previous : IsWeb m.previous

-- canonical texts of at most longest bytes
abbrev pub IsShort : ℕ → Term → Type 0
IsShort longest term = length (canonical_term term) ≤ longest

abbrev pub IsShortGraph : ℕ → Option Term → Type 0
IsShortGraph longest None = ⊤
IsShortGraph longest (Some graph) = IsShort longest graph

pub record HasShortTerms (longest : ℕ) (q : Quad) : Type 0 where
  pub subject : IsShort longest q.triple.subject
  pub predicate : IsShort longest q.triple.predicate
  pub object : IsShort longest q.triple.object
  pub graph : IsShortGraph longest q.graph
