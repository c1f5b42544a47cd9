use Rattle.std.proofs.Common.{◌≡◌, not, drop}
use Rattle.std.specs.List.{list_any}
use Rattle.std.specs.Str.{bytes_eq}
use Rattle.control_triples.specs.Variables.{texts_in}
use Rattle.control_triples.proofs.form.has_other_text.Given as goal

abbrev pub invariant-loop-variable : goal.invariant-loop-variable
invariant-loop-variable l = list_any (λ t. not (bytes_eq t l.text)) (texts_in l.variables) ≡ list_any (λ t. not (bytes_eq t l.text)) (texts_in (drop l.variable-index l.variables))
