use Rattle.std.proofs.Common.{◌≡◌, true, false, drop}
use Rattle.rdf_terms.specs.Tag.{runs_tag}
use Rattle.rdf_terms.proofs.tag.runs_tag.Given as goal

abbrev pub invariant-loop-b : goal.invariant-loop-b
invariant-loop-b l = runs_tag true false l.bytes ≡ runs_tag l.in_first l.has_byte (drop l.b-index l.bytes)
