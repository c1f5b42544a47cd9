use Rattle.std.proofs.Common.{◌≡◌, ◌≤◌, ◌+◌, length}
use Rattle.nquads_text.specs.Lines.{read_lines}
use Rattle.nquads_text.specs.Reads.{lines_of}
use Rattle.nquads_text.proofs.text.read_rest.Given as goal

abbrev pub invariant-loop-rest : goal.invariant-loop-rest
invariant-loop-rest l = (read_lines l.longest l.initial.quads.items l.initial.number (lines_of l.bytes) ≡ read_lines l.longest l.quads.items l.number (lines_of l.rest)) × (l.number + length l.rest ≤ l.initial.number + length l.bytes)

abbrev pub decreases-loop-rest : goal.decreases-loop-rest
decreases-loop-rest l = length l.rest
