-- What is left of the text of a page.
use Rattle.std.specs.Prelude.{ℕ, ◌≡◌, ◌+◌, ◌-◌, ◌<◌, ◌≤◌, ◌||◌, Bool, false, nat_lt, List, [], ◌∷◌, ◌++◌, map, length, drop, slice_index_or}
use Rattle.std.specs.List.{All, concat}
use Rattle.rdf_terms.specs.Canon.{canonical_line}
use Rattle.rdf_terms.specs.declared.term.Triple as terms
use Rattle.rdf_terms.specs.declared.term.Quad.{Quad}
use Rattle.triple_table.specs.declared.ids.IdTriple.{IdTriple}
use Rattle.triple_table.specs.declared.ids.Range.{Range}
use Rattle.triple_table.specs.Stored.{Stored, IsIdTriple, IsRange, held_terms, listed, triple_at}
use Rattle.page_responses.specs.declared.limits.TheConstants.{LONGEST_PART}
use Rattle.page_responses.specs.declared.parts.Begun.{Begun}
use Rattle.page_responses.specs.declared.parts.Begun.TheVariants.{Nothing, Triple, Line}
use Rattle.page_responses.specs.declared.rest.PageTriples.{PageTriples}
use Rattle.page_responses.specs.declared.rest.PageTriples.TheVariants.{Part, Listed}
use Rattle.page_responses.specs.Given.{IsMore}
use Rattle.page_responses.specs.Lines.{quad_lines, some_quad, triple_lines}
use Rattle.page_responses.specs.Parts.{triple_marks}

-- what is left of the line that was begun
unfoldable pub begun_text : Stored → List Quad → Begun → List ℕ
begun_text s quads Nothing = []
begun_text s quads (Triple ids from) = concat (drop from (triple_marks (triple_at (held_terms s) ids)))
begun_text s quads (Line place from) = drop from (canonical_line (slice_index_or quads place some_quad))

-- of the line that was begun a byte is left
abbrev pub IsBegun : Stored → List Quad → Begun → Type 0
IsBegun s quads Nothing = Unit {0}
IsBegun s quads (Triple ids from) = IsIdTriple (held_terms s) ids × (from < length (triple_marks (triple_at (held_terms s) ids)))
IsBegun s quads (Line place from) = (place < length quads) × (from < length (canonical_line (slice_index_or quads place some_quad)))

-- the triples of a range, or of a list from a place on
abbrev pub triples_of : Stored → PageTriples → List terms.Triple
triples_of table (Part range) = listed table range
triples_of table (Listed triples next) = map (triple_at (held_terms table)) (drop next triples.items)

abbrev pub triples_left : PageTriples → Bool
triples_left (Part range) = nat_lt range.from range.to
triples_left (Listed triples next) = nat_lt next (length triples.items)

-- those behind the first one
abbrev pub after_first : PageTriples → PageTriples
after_first (Part range) = Part (record range { from = range.from + 1 })
after_first (Listed triples next) = Listed triples (next + 1)

-- the text of their lines
abbrev pub lines_text : Stored → PageTriples → List ℕ
lines_text table triples = concat (triple_lines (triples_of table triples))

-- a first part of their lines was appended, of at most so many bytes
abbrev pub GivesLines : ℕ → Stored → PageTriples → PageTriples → List ℕ → List ℕ → Type 0
GivesLines room table old new before after = IsMore room (lines_text table old) (lines_text table new) before after

abbrev pub HasFewer : Stored → PageTriples → PageTriples → Type 0
HasFewer table old new = length (lines_text table new) < length (lines_text table old)

-- what is left of the line that was begun, and the table, its triples on the page, and the quads of the page's metadata of which no line was begun
pub record PageLines : Type 0 where
  pub begun : List ℕ
  pub table : Stored
  pub triples : PageTriples
  pub quads : List Quad

-- the text of their lines
unfoldable pub page_text : PageLines → List ℕ
page_text page = page.begun ++ (concat (triple_lines (triples_of page.table page.triples)) ++ concat (quad_lines page.quads))

-- a line of which no byte was given is left
abbrev pub lines_left : PageLines → Bool
lines_left page = triples_left page.triples || nat_lt 0 (length page.quads)

abbrev pub page_left : PageLines → Bool
page_left page = nat_lt 0 (length page.begun) || lines_left page

-- the range is one of the table, and lists as many triples as it has places
pub record IsPart (table : Stored) (part : Range) : Type 0 where
  pub range : IsRange table part
  pub lists : length (listed table part) ≡ part.to - part.from

-- the range is such a part, and the ids of the list are ids of the table
abbrev pub ArePart : Stored → PageTriples → Type 0
ArePart table (Part range) = IsPart table range
ArePart table (Listed triples next) = All (IsIdTriple (held_terms table)) triples.items

-- nothing is left but metadata, which are one part
pub record IsShortMetadata (page : PageLines) : Type 0 where
  pub begun : page.begun ≡ []
  pub past : triples_left page.triples ≡ false
  pub few : length (concat (quad_lines page.quads)) ≤ LONGEST_PART

-- of these triples the first has these ids, and those are behind it
pub record IsFirst (table : Stored) (old : PageTriples) (ids : IdTriple) (new : PageTriples) : Type 0 where
  pub held : IsIdTriple (held_terms table) ids
  pub first : triples_of table old ≡ triple_at (held_terms table) ids ∷ triples_of table new
  pub part : ArePart table new
