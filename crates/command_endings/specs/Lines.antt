-- What is said on the standard error, and the one line that a run writes of its numbers.
use Rattle.std.specs.Prelude.{ℕ, ◌≡◌, ◌⊎◌, ◌++◌, List, Option, Some, None, codes, decimal}
use Rattle.std.specs.Io.KnownBytes.{Appends}
use Rattle.tpf_base.specs.Causes.{Rose}
use Rattle.tpf_base.specs.Wrote.{SinkState, AppendsPrefix}
use Rattle.answer_faults.specs.declared.fault.Counts.{Counts}

-- the line, or a part of its front where the standard error failed, and status 8 where memory ran out over it
abbrev pub SaysLine : ℕ → ℕ → List ℕ → SinkState → SinkState → Type 0
SaysLine result status line old new =
    ((result ≡ status) × (Appends old.taken new.taken line ⊎ (Rose old.faults new.faults × AppendsPrefix old.taken new.taken line)))
    ⊎ ((result ≡ 8) × AppendsPrefix old.taken new.taken line)

-- a version, or none
abbrev pub version_text : Option ℕ → List ℕ
version_text (Some n) = decimal n
version_text None = codes "none"

-- the numbers of the triples and of the rows, with LF
abbrev pub sizes_text : Counts → List ℕ
sizes_text counts = codes "triples " ++ decimal counts.triples ++ codes " rows " ++ decimal counts.rows ++ codes "\n"

-- two versions, with LF
abbrev pub versions_text : Option ℕ → Option ℕ → List ℕ
versions_text first other = codes "changed: " ++ version_text first ++ codes " " ++ version_text other ++ codes "\n"

-- the line of an answer: the numbers of its requests and of its rows, with LF
abbrev pub counts_text : ℕ → ℕ → List ℕ
counts_text requests rows = codes "requests " ++ decimal requests ++ codes " rows " ++ decimal rows ++ codes "\n"
