use Rattle.std.proofs.Common.{◌≡◌, ◌+◌, ◌≤◌, drop}
use Rattle.rdf_terms.specs.Canon.{marks}
use Rattle.rdf_terms.proofs.canon.marks.Given as goal

abbrev pub invariant-loop-b : goal.invariant-loop-b
invariant-loop-b l = (l.marks + marks (drop l.b-index l.form) ≡ marks l.form) × (l.marks ≤ l.b-index)
