-- The text of a result, written a piece at a time from rows that are there. It serves the proofs alone.
use Rattle.std.specs.Prelude.{ℕ, ◌≡◌, ◌++◌, true, false, List, Option}
use Rattle.std.specs.Io.KnownBytes.{Appends}
use Rattle.bgp_core.specs.Solutions.{Places}
use Rattle.result_json.specs.Pieces.{Writing, row_piece, rows_text, front_text}
use Rattle.bgp_core.specs.Queries.{QueryData}

-- a row was added, and the sink took a front of what was pending then
pub record AddsRow (row : Places) (old new : Writing) (taken taken' : Option (List ℕ)) : Type 0 where
  pub query : new.query ≡ old.query
  pub has_rows : new.has_rows ≡ true
  pub given : List ℕ
  pub bytes : Appends taken taken' given
  pub whole : given ++ new.pending ≡ old.pending ++ row_piece old.query old.has_rows row

-- what was given so far, what is pending, and the text of the rows that are still to come are the text of all rows
pub record WritesSoFar (q : QueryData) (rows rest : List Places) (writer : Writing) (taken taken' : Option (List ℕ)) : Type 0 where
  pub query : writer.query ≡ q
  pub given : List ℕ
  pub bytes : Appends taken taken' given
  pub whole : given ++ (writer.pending ++ rows_text q writer.has_rows rest) ≡ front_text q ++ rows_text q false rows
