-- What the reader makes of a text in pieces.
use Rattle.std.specs.Prelude.{ℕ, ◌≡◌, ◌+◌, min, Bool, true, false, ◌==◌, List, [], ◌∷◌, ◌++◌, length, Result, Ok, Err}
use Rattle.rdf_terms.specs.declared.term.Quad.{Quad}
use Rattle.nquads_text.specs.declared.fault.Why.{Why}
use Rattle.nquads_text.specs.Reads.{lines_from, ReadsLines}
use Rattle.nquads_text.specs.Lines.{read_lines}
use Rattle.quad_feed.specs.Feed.{Fed, last_number, ends_lines}

-- a line end that an LF may still belong to
abbrev pub is_cut_end : List ℕ → Bool
is_cut_end [] = false
is_cut_end (b ∷ []) = b == 13
is_cut_end (b ∷ c ∷ bs) = false

-- with no number above the greatest
abbrev pub capped : Result (List Quad) (ℕ × Why) → Result (List Quad) (ℕ × Why)
capped (Ok quads) = Ok quads
capped (Err bad) = Err (min bad.0 last_number, bad.1)

-- the quads so far, the number of the next line, whether a CR stands just before, and the bytes from there on
unfoldable pub reading : ℕ → List Quad → ℕ → Bool → List ℕ → Result (List Quad) (ℕ × Why)
reading longest quads n cr bytes = capped (read_lines longest quads n (lines_from cr bytes))

-- all that was fed and then more
abbrev pub fed_reading : Fed → List ℕ → Result (List Quad) (ℕ × Why)
fed_reading fed more = reading fed.longest fed.quads fed.number fed.after_cr (fed.kept ++ more)

-- Of these bytes, each line that has ended is read, and left is what follows the last line end; the quads so far and the
-- number of the next line, before and after, and whether a CR stands just before what is left.
pub record ReadsEnded (longest : ℕ) (quads : List Quad) (n : ℕ) (bytes : List ℕ) (new : List Quad) (m : ℕ) (cr : Bool) (left : List ℕ) : Type 0 where
  pub ended : List ℕ
  pub whole : bytes ≡ ended ++ left
  pub at_end : ends_lines ended ≡ true
  pub front : List (List ℕ)
  pub lines : lines_from false bytes ≡ front ++ lines_from cr left
  pub read : List Quad
  pub reads : ReadsLines longest front read
  pub quads_are : new ≡ quads ++ read
  pub number : m ≡ min (n + length front) last_number
