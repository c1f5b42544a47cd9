-- The lines of quads, one after another.
use Rattle.std.specs.Prelude.{ℕ, ◌≡◌, ◌-◌, ◌≤◌, ◌*◌, ◌^◌, Bool, nat_lt, List, length, map, take, drop, slice_index_or}
use Rattle.std.specs.List.{concat}
use Rattle.rdf_terms.specs.declared.term.Quad.{Quad}
use Rattle.rdf_terms.specs.Canon.{canonical_line}

abbrev pub lines_text : List Quad → List ℕ
lines_text quads = concat (map canonical_line quads)

-- the line of the quad in place i
abbrev pub line_in : List Quad → ℕ → Quad → List ℕ
line_in quads i d = canonical_line (slice_index_or quads i d)

-- at most so many bytes of that line, behind the first `from`
abbrev pub part_of_line : List Quad → ℕ → ℕ → ℕ → Quad → List ℕ
part_of_line quads i from most d = take most (drop from (line_in quads i d))

-- whether bytes of the line are left behind that part
abbrev pub is_left_of_line : List Quad → ℕ → ℕ → ℕ → Quad → Bool
is_left_of_line quads i from most d = nat_lt most (length (line_in quads i d) - from)

-- the lines have so many bytes, which 128 bits hold
pub record IsLength (n : ℕ) (quads : List Quad) : Type 0 where
  pub is : n ≡ length (lines_text quads)
  pub small : n ≤ 21 * 2 ^ 70
