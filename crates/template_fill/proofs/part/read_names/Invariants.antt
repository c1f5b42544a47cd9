use Rattle.std.proofs.Common.{◌≡◌, ◌==◌, ◌++◌, true}
use Rattle.std.specs.List.{list_all, slice_split}
use Rattle.std.specs.Option.{option_copied}
use Rattle.template_fill.specs.Templates.{is_name, sections_after}
use Rattle.template_fill.proofs.Sections.{left_over}
use Rattle.template_fill.proofs.part.read_names.Given as goal

abbrev pub invariant-loop-rest : goal.invariant-loop-rest
invariant-loop-rest l = record {
  sections : slice_split (λ b. b == 44) l.fn.bytes ≡ l.names.items ++ sections_after 44 (option_copied l.rest);
  all : list_all is_name l.names.items ≡ true;
}

abbrev pub decreases-loop-rest : goal.decreases-loop-rest
decreases-loop-rest l = left_over (option_copied l.rest)
