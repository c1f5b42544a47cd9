-- The fields of a head as names and values: those of an answer that is written, and those that were found in bytes.
use Rattle.std.specs.Prelude.{ℕ, Bool, ◌==◌, List, map, codes}
use Rattle.std.specs.List.{before_first}
use Rattle.httparse.specs.declared.spans.HeaderSpan.{HeaderSpan}
use Rattle.httparse.specs.Spans.{header_bytes}
use Rattle.tpf_base.specs.HttpHeads.{values_of, is_word}
use Rattle.http_wire.specs.declared.message.Field.{Field}

abbrev pub pair_of : Field → List ℕ × List ℕ
pair_of f = (f.name, f.value)

-- the names and the values, in order
abbrev pub pairs_of : List Field → List (List ℕ × List ℕ)
pairs_of fields = map pair_of fields

-- the names and the values that stand at these places of a head
abbrev pub fields_at : List ℕ → List HeaderSpan → List (List ℕ × List ℕ)
fields_at head headers = map (header_bytes head) headers

-- the values of those of this name
abbrev pub values_at : List ℕ → List ℕ → List HeaderSpan → List (List ℕ)
values_at name head headers = values_of name (fields_at head headers)

-- a value names the media type of N-Quads, with any parameters
abbrev pub names_nquads : List ℕ → Bool
names_nquads value = is_word (codes "application/n-quads") (before_first (λ b. b == 59) value)
