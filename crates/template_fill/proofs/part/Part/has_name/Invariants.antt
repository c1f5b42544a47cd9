use Rattle.std.proofs.Common.{◌≡◌, drop}
use Rattle.std.specs.List.{list_any}
use Rattle.std.specs.Str.{bytes_eq}
use Rattle.template_fill.proofs.part.Part.has_name.Given as goal

abbrev pub invariant-loop-own : goal.invariant-loop-own
invariant-loop-own l = list_any (λ own. bytes_eq own l.name) l.own-items ≡ list_any (λ own. bytes_eq own l.name) (drop l.own-index l.own-items)
