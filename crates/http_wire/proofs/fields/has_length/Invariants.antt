use Rattle.std.proofs.Common.{◌≡◌, map, drop, codes}
use Rattle.std.specs.Prelude.{not, bytes_eq}
use Rattle.std.specs.List.{list_any}
use Rattle.httparse.specs.Spans.{header_bytes}
use Rattle.tpf_base.specs.HttpHeads.{values_of}
use Rattle.http_wire.proofs.fields.has_length.Given as goal

abbrev pub invariant-loop-header : goal.invariant-loop-header
invariant-loop-header l = list_any (λ v. not (bytes_eq v (codes "0"))) (values_of (codes "content-length") (map (header_bytes l.head) (drop l.header-index l.headers))) ≡ list_any (λ v. not (bytes_eq v (codes "0"))) (values_of (codes "content-length") (map (header_bytes l.head) l.headers))
