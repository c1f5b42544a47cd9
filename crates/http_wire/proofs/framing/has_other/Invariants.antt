use Rattle.std.proofs.Common.{◌≡◌, map, drop}
use Rattle.std.specs.Prelude.{not}
use Rattle.std.specs.List.{list_any}
use Rattle.httparse.specs.Spans.{header_bytes}
use Rattle.tpf_base.specs.HttpHeads.{values_of}
use Rattle.tpf_base.specs.HttpReply.{is_coding}
use Rattle.http_wire.proofs.framing.has_other.Given as goal

abbrev pub invariant-loop-header : goal.invariant-loop-header
invariant-loop-header l = list_any (λ v. not (is_coding l.word v)) (values_of l.name (map (header_bytes l.head) (drop l.header-index l.headers))) ≡ list_any (λ v. not (is_coding l.word v)) (values_of l.name (map (header_bytes l.head) l.headers))
