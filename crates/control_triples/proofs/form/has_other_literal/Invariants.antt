use Rattle.std.proofs.Common.{◌≡◌, not, ◌&&◌, drop}
use Rattle.std.specs.List.{list_any}
use Rattle.control_triples.specs.Parts.{objects_in, form_of}
use Rattle.std.specs.Prelude.{is_some}
use Rattle.rdf_terms.specs.Same.{term_eq}
use Rattle.control_triples.proofs.form.has_other_literal.Given as goal

abbrev pub invariant-loop-triple : goal.invariant-loop-triple
invariant-loop-triple l = list_any (λ o. is_some (form_of o) && not (term_eq o l.literal)) (objects_in l.triples) ≡ list_any (λ o. is_some (form_of o) && not (term_eq o l.literal)) (objects_in (drop l.triple-index l.triples))
