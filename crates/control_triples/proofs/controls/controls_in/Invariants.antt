use Rattle.std.proofs.Common.{◌≡◌, take}
use Rattle.std.specs.List.{filter_map}
use Rattle.control_triples.specs.Parts.{borrowed_triples, control_of}
use Rattle.control_triples.proofs.controls.controls_in.Given as goal

abbrev pub invariant-loop-quad : goal.invariant-loop-quad
invariant-loop-quad l = borrowed_triples l.controls.items ≡ filter_map (control_of l.quads l.topic) (take l.quad-index l.quads)
