use Rattle.std.proofs.Common.{◌≡◌, drop}
use Rattle.template_fill.specs.Templates.{value_of}
use Rattle.template_fill.proofs.part.value_of.Given as goal

abbrev pub invariant-loop-value : goal.invariant-loop-value
invariant-loop-value l = value_of l.name l.values ≡ value_of l.name (drop l.value-index l.values)
