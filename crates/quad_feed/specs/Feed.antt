-- A text that comes in pieces.
use Rattle.std.specs.Prelude.{ℕ, ◌≡◌, ◌+◌, ◌-◌, ◌^◌, min, Bool, true, false, not, ◌==◌, ◌||◌, List, [], ◌∷◌, ◌++◌, length, Option, None}
use Rattle.std.specs.List.{list_all}
use Rattle.rdf_terms.specs.declared.term.Quad.{Quad}
use Rattle.nquads_text.specs.declared.fault.Why.{Why}
use Rattle.nquads_text.specs.declared.fault.TextFault.{TextFault}
use Rattle.nquads_text.specs.Reads.{lines_from, ReadsLines, HasFault}

-- what is kept of a text that is fed: its quads so far, the number of the next line, whether a CR ended the last line, and the line that has no end yet
pub record Fed : Type 0 where
  pub longest : ℕ
  pub quads : List Quad
  pub number : ℕ
  pub after_cr : Bool
  pub kept : List ℕ
  pub fault : Option TextFault

-- before the first piece
unfoldable pub nothing_fed : ℕ → Fed
nothing_fed longest = record { longest = longest; quads = []; number = 1; after_cr = false; kept = []; fault = None }

-- the greatest line number
abbrev pub last_number : ℕ
last_number = 2 ^ 64 - 1

-- all that was fed and then more is read as these quads
abbrev pub ReadsWith : Fed → List ℕ → List Quad → Type 0
ReadsWith fed more quads = (later : List Quad) × ReadsLines fed.longest (lines_from fed.after_cr (fed.kept ++ more)) later × (quads ≡ fed.quads ++ later)

-- the first fault of all that was fed and then more; a number that its type can't hold is the greatest that it can
pub record FaultWith (fed : Fed) (more : List ℕ) (number : ℕ) (why : Why) : Type 0 where
  pub front : List (List ℕ)
  pub line : List ℕ
  pub rest : List (List ℕ)
  pub lines : lines_from fed.after_cr (fed.kept ++ more) ≡ front ++ line ∷ rest
  pub place : number ≡ min (fed.number + length front) last_number
  pub before : (quads : List Quad) × ReadsLines fed.longest front quads
  pub fault : HasFault fed.longest line why

-- however the text goes on, new reads it as old reads it with the piece in front
pub record TakesPiece (old : Fed) (piece : List ℕ) (new : Fed) : Type 0 where
  pub reads : (more : List ℕ) (quads : List Quad) → ReadsWith old (piece ++ more) quads → ReadsWith new more quads
  pub only_reads : (more : List ℕ) (quads : List Quad) → ReadsWith new more quads → ReadsWith old (piece ++ more) quads
  pub faults : (more : List ℕ) (number : ℕ) (why : Why) → FaultWith old (piece ++ more) number why → FaultWith new more number why
  pub only_faults : (more : List ℕ) (number : ℕ) (why : Why) → FaultWith new more number why → FaultWith old (piece ++ more) number why

-- no LF and no CR
abbrev pub is_inside : ℕ → Bool
is_inside b = not ((b == 10) || (b == 13))

-- what is kept is no more than a line that has no end yet
pub record IsUnfinished (fed : Fed) : Type 0 where
  pub line : list_all is_inside fed.kept ≡ true
  pub after_cr : fed.after_cr ≡ true → fed.kept ≡ []

-- nothing, or bytes of which the last is an LF or a CR
abbrev pub ends_lines : List ℕ → Bool
ends_lines [] = true
ends_lines (b ∷ []) = (b == 10) || (b == 13)
ends_lines (b ∷ c ∷ bytes) = ends_lines (c ∷ bytes)

-- each line that has ended is read and counted, and what follows the last line end is kept
pub record TakesLines (old : Fed) (piece : List ℕ) (new : Fed) : Type 0 where
  pub ended : List ℕ
  pub whole : old.kept ++ piece ≡ ended ++ new.kept
  pub at_end : ends_lines ended ≡ true
  pub read : List Quad
  pub lines : ReadsLines old.longest (lines_from old.after_cr ended) read
  pub quads : new.quads ≡ old.quads ++ read
  pub number : new.number ≡ min (old.number + length (lines_from old.after_cr ended)) last_number
  pub longest : new.longest ≡ old.longest
