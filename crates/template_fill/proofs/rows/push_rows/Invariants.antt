use Rattle.std.proofs.Common.{◌≡◌, ◌++◌, ◌<◌, drop}
use Rattle.std.specs.String.{string_bytes}
use Rattle.std.specs.List.{AllByRecursion}
use Rattle.template_fill.specs.Forms.{HasNoBlank}
use Rattle.template_fill.specs.Rows.{rows_text}
use Rattle.template_fill.proofs.rows.push_rows.Given as goal

abbrev pub invariant-loop-row : goal.invariant-loop-row
invariant-loop-row l = record {
  text : string_bytes l.initial.out ++ rows_text l.initial.next l.rows ≡ string_bytes l.out ++ rows_text l.next (drop l.row-index l.rows);
  ascii : l.next < 128;
  terms : AllByRecursion HasNoBlank (drop l.row-index l.rows);
}
