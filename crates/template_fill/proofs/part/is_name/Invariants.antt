use Rattle.std.proofs.Common.{◌≡◌, ◌==◌}
use Rattle.std.specs.List.{list_all, slice_split}
use Rattle.std.specs.Option.{option_copied}
use Rattle.template_fill.specs.Templates.{is_word, sections_after}
use Rattle.template_fill.proofs.Sections.{left_over}
use Rattle.template_fill.proofs.part.is_name.Given as goal

abbrev pub invariant-loop-rest : goal.invariant-loop-rest
invariant-loop-rest l = list_all is_word (slice_split (λ b. b == 46) l.fn.bytes) ≡ list_all is_word (sections_after 46 (option_copied l.rest))

abbrev pub decreases-loop-rest : goal.decreases-loop-rest
decreases-loop-rest l = left_over (option_copied l.rest)
