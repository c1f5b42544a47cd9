use Rattle.std.proofs.Common.{◌≡◌, drop}
use Rattle.tpf_base.specs.HttpHeads.{from_path}
use Rattle.http_wire.proofs.target.from_path.Given as goal

abbrev pub invariant-loop-i : goal.invariant-loop-i
invariant-loop-i l = from_path l.bytes ≡ from_path (drop l.i l.bytes)
