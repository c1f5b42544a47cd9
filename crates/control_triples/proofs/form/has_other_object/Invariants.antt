use Rattle.std.proofs.Common.{◌≡◌, not, drop}
use Rattle.std.specs.List.{list_any}
use Rattle.control_triples.specs.Parts.{objects_in}
use Rattle.rdf_terms.specs.Same.{term_eq}
use Rattle.control_triples.proofs.form.has_other_object.Given as goal

abbrev pub invariant-loop-triple : goal.invariant-loop-triple
invariant-loop-triple l = list_any (λ o. not (term_eq o l.object)) (objects_in l.triples) ≡ list_any (λ o. not (term_eq o l.object)) (objects_in (drop l.triple-index l.triples))
