use Rattle.std.proofs.Common.{◌≡◌, take}
use Rattle.hydra_controls.specs.Facts.{quads_of}
use Rattle.metadata_quads.proofs.pages.quads.Given as goal

abbrev pub invariant-loop-i : goal.invariant-loop-i
invariant-loop-i l = l.quads.items ≡ take l.i (quads_of l.facts)
