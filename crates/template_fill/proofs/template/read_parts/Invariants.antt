use Rattle.std.proofs.Common.{◌≡◌, ◌++◌}
use Rattle.std.specs.Option.{option_copied, option_map}
use Rattle.template_fill.specs.Templates.{parts_of, sections_after}
use Rattle.template_fill.proofs.Sections.{left_over}
use Rattle.template_fill.proofs.template.read_parts.Given as goal

abbrev pub invariant-loop-rest : goal.invariant-loop-rest
invariant-loop-rest l = parts_of (sections_after 123 (option_copied l.fn.first)) ≡ option_map (λ more. l.parts.items ++ more) (parts_of (sections_after 123 (option_copied l.rest)))

abbrev pub decreases-loop-rest : goal.decreases-loop-rest
decreases-loop-rest l = left_over (option_copied l.rest)
