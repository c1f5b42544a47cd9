use Rattle.std.proofs.Common.{◌≡◌, take}
use Rattle.std.specs.List.{filter_map}
use Rattle.control_triples.specs.Parts.{borrowed_triples}
use Rattle.control_triples.specs.Variables.{named_all, named_of}
use Rattle.control_triples.proofs.variable.listed_variables.Given as goal

abbrev pub invariant-loop-triple : goal.invariant-loop-triple
invariant-loop-triple l = named_all l.variables.items ≡ filter_map named_of (borrowed_triples (take l.triple-index l.triples))
