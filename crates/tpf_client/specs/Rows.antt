-- Where rows go: the text of a result on a sink, or a list.
use Rattle.std.specs.Prelude.{ℕ, ◌≡◌, ◌<◌, ◌^◌, ◌++◌, true, false, List, length, Option}
use Rattle.std.specs.Io.KnownBytes.{Appends}
use Rattle.tpf_base.specs.Causes.{counted_by}
use Rattle.tpf_base.specs.declared.fault.Fault.{Fault}
use Rattle.tpf_base.specs.declared.fault.Fault.TheVariants.{Failed, OutOfMemory}
use Rattle.bgp_core.specs.Queries.{QueryData}
use Rattle.bgp_core.specs.Solutions.{Places}
use Rattle.result_json.specs.Pieces.{Writing, front_text, row_piece, rows_text, after_rows}
use Rattle.tpf_client.specs.declared.fault.ClientFault.{ClientFault}
use Rattle.tpf_client.specs.declared.fault.ClientFault.TheVariants as faults

-- a fault of a sink as that of a call
abbrev pub sink_fault : Fault → ClientFault
sink_fault Failed = faults.Sink
sink_fault OutOfMemory = faults.OutOfMemory

-- A text that is written: its writer, and how many rows it was given.
pub record Text : Type 0 where
  pub writer : Writing
  pub count : ℕ

-- a text to which no row was given: what stands in front of the rows is pending
abbrev pub begun : QueryData → Text
begun q = record { writer = record { query = q; has_rows = false; pending = front_text q }; count = 0 }

-- the text with one more row
abbrev pub with_row : Text → Places → Text
with_row t row = record {
  writer = record { query = t.writer.query; has_rows = true; pending = t.writer.pending ++ row_piece t.writer.query t.writer.has_rows row };
  count = counted_by 1 t.count;
}

-- The sink took a front of what the writer had and the text of these rows, and the writer holds the rest.
pub record WritesRows (rows : List Places) (old new : Text) (taken taken' : Option (List ℕ)) : Type 0 where
  pub query : new.writer.query ≡ old.writer.query
  pub has_rows : new.writer.has_rows ≡ after_rows old.writer.has_rows rows
  pub front : List ℕ
  pub bytes : Appends taken taken' front
  pub whole : old.writer.pending ++ rows_text old.writer.query old.writer.has_rows rows ≡ front ++ new.writer.pending
  pub count : old.count < 2 ^ 64 → new.count ≡ counted_by (length rows) old.count

-- The sink took a front of that, and the writer holds no more than what follows.
pub record WritesFront (rows : List Places) (old new : Text) (taken taken' : Option (List ℕ)) : Type 0 where
  pub front : List ℕ
  pub rest : List ℕ
  pub bytes : Appends taken taken' front
  pub whole : old.writer.pending ++ rows_text old.writer.query old.writer.has_rows rows ≡ front ++ (new.writer.pending ++ rest)
