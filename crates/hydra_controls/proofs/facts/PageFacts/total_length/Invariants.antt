use Rattle.std.proofs.Common.{◌≡◌, ◌+◌, ◌*◌, ◌^◌, ◌≤◌, length}
use Rattle.hydra_controls.specs.Facts.{quads_of}
use Rattle.hydra_controls.proofs.WholeLaws.{lines_from}
use Rattle.hydra_controls.proofs.facts.PageFacts.total_length.Given as goal

abbrev pub invariant-loop-i : goal.invariant-loop-i
invariant-loop-i l = (l.sum + length (lines_from (quads_of l.self) l.i) ≡ length (lines_from (quads_of l.self) 0)) × (l.sum ≤ l.i * 2 ^ 70)
