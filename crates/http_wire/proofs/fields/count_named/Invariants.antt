use Rattle.std.proofs.Common.{◌≡◌, ◌+◌, ◌≤◌, length, map, drop}
use Rattle.httparse.specs.Spans.{header_bytes}
use Rattle.tpf_base.specs.HttpHeads.{values_of}
use Rattle.http_wire.proofs.fields.count_named.Given as goal

abbrev pub invariant-loop-header : goal.invariant-loop-header
invariant-loop-header l = (l.count + length (values_of l.name (map (header_bytes l.head) (drop l.header-index l.headers))) ≡ length (values_of l.name (map (header_bytes l.head) l.headers))) × (l.count ≤ l.header-index)
