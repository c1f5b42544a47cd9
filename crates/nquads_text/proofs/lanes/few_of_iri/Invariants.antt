use Rattle.std.proofs.Common.{◌-◌, length}
use Rattle.rdf_terms.specs.Iri.{is_iri_byte}
use Rattle.nquads_text.specs.Runs.{PassesFrom}
use Rattle.nquads_text.proofs.lanes.few_of_iri.Given as goal

abbrev pub invariant-loop-at : goal.invariant-loop-at
invariant-loop-at l = PassesFrom is_iri_byte l.bytes l.from l.at

abbrev pub decreases-loop-at : goal.decreases-loop-at
decreases-loop-at l = length l.bytes - l.at
