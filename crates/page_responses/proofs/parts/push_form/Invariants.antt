use Rattle.std.proofs.Common.{◌≡◌, ◌++◌, drop}
use Rattle.std.specs.List.{concat}
use Rattle.list_laws.specs.Begins.{Begins}
use Rattle.page_responses.specs.Parts.{form_marks}
use Rattle.page_responses.proofs.parts.push_form.Given as goal

abbrev pub invariant-loop-b : goal.invariant-loop-b
invariant-loop-b l = (l.out.items ++ concat (form_marks (drop l.b-index l.form)) ≡ l.initial.out.items ++ concat (form_marks l.form)) × Begins l.initial.out.items l.out.items
