-- A part of a line was given, as what is left of the line that was begun.
use Rattle.std.proofs.Common.{◌≡◌, ℕ, ◌+◌, ◌-◌, ◌<◌, ◌≤◌, true, false, List, ◌++◌, length, take, drop}
use Rattle.std.specs.Prelude.{nat_lt, slice_index_or}
use Rattle.std.specs.List.{concat}
use Rattle.rdf_terms.specs.declared.term.Quad.{Quad}
use Rattle.rdf_terms.specs.Canon.{canonical_line}
use Rattle.triple_table.specs.declared.ids.IdTriple.{IdTriple}
use Rattle.triple_table.specs.Stored.{Stored, held_terms, triple_at}
use Rattle.page_responses.specs.declared.limits.TheConstants.{PART}
use Rattle.page_responses.specs.declared.parts.Begun.TheVariants.{Nothing, Triple, Line}
use Rattle.page_responses.specs.Given.{IsGiven}
use Rattle.page_responses.specs.Lines.{some_quad, triple_line}
use Rattle.page_responses.specs.PageRests.{begun_text}
use Rattle.page_responses.specs.Parts.{triple_marks}
use Rattle.page_responses.proofs.PartLaws.{line_ends, line_given, line_goes_on, marks_end, marks_go_on, triple_are}

module _ (s : Stored) (quads : List Quad) (ids : IdTriple) (from : ℕ) (old new : List ℕ) where
  pub whole_line : from ≡ 0 → length (triple_line (triple_at (held_terms s) ids)) ≤ PART → new ≡ old ++ triple_line (triple_at (held_terms s) ids) → IsGiven (begun_text s quads (Triple ids from)) (begun_text s quads Nothing) old new
  unfolding begun_text
  whole_line none short appended = line_given (triple_at (held_terms s) ids) from old new none short appended

  pub part_behind : from < length (triple_marks (triple_at (held_terms s) ids)) → new ≡ old ++ concat (take PART (drop from (triple_marks (triple_at (held_terms s) ids))))
      → IsGiven (begun_text s quads (Triple ids from)) (begun_text s quads (Triple ids (from + PART))) old new
  unfolding begun_text
  part_behind some appended = marks_go_on from (triple_marks (triple_at (held_terms s) ids)) old new (triple_are (triple_at (held_terms s) ids)) some appended

  pub last_part : from < length (triple_marks (triple_at (held_terms s) ids)) → nat_lt PART (length (triple_marks (triple_at (held_terms s) ids)) - from) ≡ false
      → new ≡ old ++ concat (take PART (drop from (triple_marks (triple_at (held_terms s) ids)))) → IsGiven (begun_text s quads (Triple ids from)) (begun_text s quads Nothing) old new
  unfolding begun_text
  last_part some last appended = marks_end from (triple_marks (triple_at (held_terms s) ids)) old new (triple_are (triple_at (held_terms s) ids)) some last appended

module _ (s : Stored) (quads : List Quad) (place from : ℕ) (old new : List ℕ) where
  pub line_behind : from < length (canonical_line (slice_index_or quads place some_quad)) → nat_lt PART (length (canonical_line (slice_index_or quads place some_quad)) - from) ≡ true
      → new ≡ old ++ take PART (drop from (canonical_line (slice_index_or quads place some_quad))) → IsGiven (begun_text s quads (Line place from)) (begun_text s quads (Line place (from + PART))) old new
  unfolding begun_text
  line_behind some more appended = line_goes_on from (canonical_line (slice_index_or quads place some_quad)) old new some more appended

  pub line_over : from < length (canonical_line (slice_index_or quads place some_quad)) → nat_lt PART (length (canonical_line (slice_index_or quads place some_quad)) - from) ≡ false
      → new ≡ old ++ take PART (drop from (canonical_line (slice_index_or quads place some_quad))) → IsGiven (begun_text s quads (Line place from)) (begun_text s quads Nothing) old new
  unfolding begun_text
  line_over some last appended = line_ends from (canonical_line (slice_index_or quads place some_quad)) old new some last appended
