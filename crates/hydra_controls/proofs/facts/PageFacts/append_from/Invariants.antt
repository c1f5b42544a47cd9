use Rattle.std.proofs.Common.{◌≡◌, ◌++◌}
use Rattle.list_laws.specs.Begins.{Begins}
use Rattle.hydra_controls.specs.Facts.{quads_of}
use Rattle.hydra_controls.proofs.WholeLaws.{lines_from}
use Rattle.hydra_controls.proofs.facts.PageFacts.append_from.Given as goal

abbrev pub invariant-loop-i : goal.invariant-loop-i
invariant-loop-i l = (l.out.items ++ lines_from (quads_of l.self) l.i ≡ l.initial.out.items ++ lines_from (quads_of l.self) l.place) × Begins l.initial.out.items l.out.items
