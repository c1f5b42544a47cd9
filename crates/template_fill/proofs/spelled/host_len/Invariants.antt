use Rattle.std.proofs.Common.{◌≡◌, ◌+◌, drop}
use Rattle.std.specs.List.{prefix_len}
use Rattle.tpf_base.specs.Addresses.{is_host_byte}
use Rattle.template_fill.proofs.spelled.host_len.Given as goal

abbrev pub invariant-loop-i : goal.invariant-loop-i
invariant-loop-i l = prefix_len is_host_byte l.bytes ≡ l.i + prefix_len is_host_byte (drop l.i l.bytes)
