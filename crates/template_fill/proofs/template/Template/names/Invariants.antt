use Rattle.std.proofs.Common.{◌≡◌, drop}
use Rattle.std.specs.List.{list_any}
use Rattle.std.specs.Str.{bytes_eq}
use Rattle.template_fill.proofs.template.Template.names.Given as goal

abbrev pub invariant-loop-part : goal.invariant-loop-part
invariant-loop-part l = list_any (λ part. list_any (λ own. bytes_eq own l.name) part.names) l.part-items ≡ list_any (λ part. list_any (λ own. bytes_eq own l.name) part.names) (drop l.part-index l.part-items)
