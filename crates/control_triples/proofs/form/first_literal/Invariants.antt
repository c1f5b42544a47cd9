use Rattle.std.proofs.Common.{◌≡◌, drop}
use Rattle.std.specs.List.{list_any}
use Rattle.control_triples.specs.Parts.{objects_in, form_of}
use Rattle.std.specs.Prelude.{is_some}
use Rattle.control_triples.proofs.form.first_literal.Given as goal

abbrev pub invariant-loop-triple : goal.invariant-loop-triple
invariant-loop-triple l = list_any (λ o. is_some (form_of o)) (objects_in l.triples) ≡ list_any (λ o. is_some (form_of o)) (objects_in (drop l.triple-index l.triples))
