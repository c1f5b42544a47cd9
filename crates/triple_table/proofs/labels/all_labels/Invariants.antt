use Rattle.std.proofs.Common.{◌≡◌, take}
use Rattle.std.specs.List.{filter_map}
use Rattle.triple_table.specs.Chosen.{chosen}
use Rattle.triple_table.specs.Labels.{texts, label_of}
use Rattle.triple_table.specs.Served.{terms_of}
use Rattle.triple_table.proofs.labels.all_labels.Given as goal

abbrev pub invariant-loop-quad : goal.invariant-loop-quad
invariant-loop-quad l = texts l.labels.items ≡ filter_map label_of (terms_of (chosen l.choice (take l.quad-index l.quads)))
