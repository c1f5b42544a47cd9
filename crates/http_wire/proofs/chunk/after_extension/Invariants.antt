use Rattle.std.proofs.Common.{◌≡◌, length}
use Rattle.httparse.specs.Grammar.{is_extension_byte}
use Rattle.tpf_base.specs.HttpReader.{split_run}
use Rattle.http_wire.proofs.chunk.after_extension.Given as goal

abbrev pub invariant-loop-rest : goal.invariant-loop-rest
invariant-loop-rest l = (split_run is_extension_byte l.rest).1 ≡ (split_run is_extension_byte l.text).1

abbrev pub decreases-loop-rest : goal.decreases-loop-rest
decreases-loop-rest l = length l.rest
