use Rattle.std.proofs.Common.{◌≡◌, map, drop}
use Rattle.httparse.specs.Spans.{header_bytes}
use Rattle.tpf_base.specs.HttpHeads.{values_of}
use Rattle.http_wire.proofs.framing.first_named.Given as goal

abbrev pub invariant-loop-header : goal.invariant-loop-header
invariant-loop-header l = values_of l.name (map (header_bytes l.head) (drop l.header-index l.headers)) ≡ values_of l.name (map (header_bytes l.head) l.headers)
