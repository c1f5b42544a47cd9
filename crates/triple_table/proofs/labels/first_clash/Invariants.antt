use Rattle.std.proofs.Common.{take}
use Rattle.triple_table.specs.Chosen.{chosen}
use Rattle.triple_table.specs.Labels.{texts, IsFirstClash}
use Rattle.triple_table.specs.Served.{terms_of}
use Rattle.triple_table.proofs.labels.first_clash.Given as goal

abbrev pub invariant-loop-quad : goal.invariant-loop-quad
invariant-loop-quad l = IsFirstClash l.authority (texts l.labels) (terms_of (chosen l.choice (take l.quad-index l.quads))) l.first
