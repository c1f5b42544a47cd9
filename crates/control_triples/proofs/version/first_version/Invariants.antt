use Rattle.std.proofs.Common.{◌≡◌, drop}
use Rattle.control_triples.specs.Parts.{borrowed_triples}
use Rattle.control_triples.specs.Versions.{first_version}
use Rattle.control_triples.proofs.version.first_version.Given as goal

abbrev pub invariant-loop-triple : goal.invariant-loop-triple
invariant-loop-triple l = first_version (borrowed_triples l.triples) ≡ first_version (borrowed_triples (drop l.triple-index l.triples))
