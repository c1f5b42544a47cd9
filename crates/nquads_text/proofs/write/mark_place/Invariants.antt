use Rattle.std.proofs.Common.{◌≡◌, drop}
use Rattle.rdf_terms.specs.Canon.{is_marked}
use Rattle.nquads_text.specs.Scan.{first_place}
use Rattle.nquads_text.proofs.write.mark_place.Given as goal

abbrev pub invariant-loop-i : goal.invariant-loop-i
invariant-loop-i l = first_place is_marked 0 l.form ≡ first_place is_marked l.i (drop l.i l.form)
