use Rattle.std.proofs.Common.{◌≡◌, ◌-◌, ◌≤◌, ◌*◌, length}
use Rattle.query_tokens.specs.Names.{IsRun}
use Rattle.query_tokens.specs.Pieces.{byte_place}
use Rattle.query_tokens.proofs.Pieces.{Front}
use Rattle.query_tokens.proofs.piece.pieces.Given as goal

abbrev pub invariant-loop-place : goal.invariant-loop-place
invariant-loop-place l = record {
  run : IsRun l.chars l.run;
  front : Front l.chars l.place l.pieces.items;
  at : l.at ≡ byte_place l.chars l.place;
  few : l.at ≤ 4 * l.place;
}

abbrev pub decreases-loop-place : goal.decreases-loop-place
decreases-loop-place l = length l.chars - l.place
