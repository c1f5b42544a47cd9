use Rattle.std.proofs.Common.{◌≡◌, None}
use Rattle.tpf_base.specs.HttpHeads.{ends_empty, least_below}
use Rattle.http_wire.proofs.heads.head_length.Given as goal

abbrev pub invariant-loop-n : goal.invariant-loop-n
invariant-loop-n l = least_below l.n (ends_empty l.bytes) ≡ None
