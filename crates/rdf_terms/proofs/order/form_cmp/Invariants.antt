use Rattle.std.proofs.Common.{◌≡◌, ◌≤◌, ◌-◌, drop, length}
use Rattle.rdf_terms.specs.Compare.{form_cmp}
use Rattle.rdf_terms.proofs.order.form_cmp.Given as goal

abbrev pub invariant-loop-n : goal.invariant-loop-n
invariant-loop-n l = (form_cmp l.rest l.a l.b ≡ form_cmp l.rest (drop l.n l.a) (drop l.n l.b)) × (l.n ≤ length l.a) × (l.n ≤ length l.b)

abbrev pub decreases-loop-n : goal.decreases-loop-n
decreases-loop-n l = length l.a - l.n
