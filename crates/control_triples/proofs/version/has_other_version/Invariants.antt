use Rattle.std.proofs.Common.{◌≡◌, drop}
use Rattle.std.specs.List.{list_any}
use Rattle.control_triples.specs.Parts.{borrowed_triples}
use Rattle.control_triples.specs.Versions.{is_other_version}
use Rattle.control_triples.proofs.version.has_other_version.Given as goal

abbrev pub invariant-loop-triple : goal.invariant-loop-triple
invariant-loop-triple l = list_any (is_other_version l.version) (borrowed_triples l.triples) ≡ list_any (is_other_version l.version) (borrowed_triples (drop l.triple-index l.triples))
