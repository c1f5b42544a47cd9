use Rattle.std.proofs.Common.{◌≡◌, map, drop}
use Rattle.std.specs.Prelude.{bytes_eq}
use Rattle.std.specs.List.{list_all}
use Rattle.httparse.specs.Spans.{header_bytes}
use Rattle.tpf_base.specs.HttpHeads.{values_of}
use Rattle.http_wire.proofs.framing.are_all.Given as goal

abbrev pub invariant-loop-header : goal.invariant-loop-header
invariant-loop-header l = list_all (λ v. bytes_eq v l.value) (values_of l.name (map (header_bytes l.head) (drop l.header-index l.headers))) ≡ list_all (λ v. bytes_eq v l.value) (values_of l.name (map (header_bytes l.head) l.headers))
