use Rattle.std.proofs.Common.{◌≡◌, length}
use Rattle.std.specs.Char.{is_ascii_hexdigit}
use Rattle.tpf_base.specs.HttpReader.{split_run}
use Rattle.http_wire.proofs.chunk.after_digits.Given as goal

abbrev pub invariant-loop-rest : goal.invariant-loop-rest
invariant-loop-rest l = (split_run is_ascii_hexdigit l.rest).1 ≡ (split_run is_ascii_hexdigit l.line).1

abbrev pub decreases-loop-rest : goal.decreases-loop-rest
decreases-loop-rest l = length l.rest
