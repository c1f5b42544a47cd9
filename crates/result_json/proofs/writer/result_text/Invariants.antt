use Rattle.std.proofs.Common.{◌≡◌, ◌++◌, false, drop}
use Rattle.result_json.specs.Pieces.{front_text, rows_text}
use Rattle.result_json.proofs.writer.result_text.Given as goal

abbrev pub invariant-loop-row : goal.invariant-loop-row
invariant-loop-row l = (l.writer.query ≡ l.query) × (l.writer.pending ++ rows_text l.query l.writer.has_rows (drop l.row-index l.rows) ≡ front_text l.query ++ rows_text l.query false l.rows)
