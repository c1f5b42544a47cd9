use Rattle.std.proofs.Common.{◌≡◌, ◌+◌, length}
use Rattle.tpf_base.specs.HttpHeads.{blank_length}
use Rattle.http_wire.proofs.heads.blank_length.Given as goal

abbrev pub invariant-loop-rest : goal.invariant-loop-rest
invariant-loop-rest l = blank_length l.bytes + length l.rest ≡ length l.bytes + blank_length l.rest

abbrev pub decreases-loop-rest : goal.decreases-loop-rest
decreases-loop-rest l = length l.rest
