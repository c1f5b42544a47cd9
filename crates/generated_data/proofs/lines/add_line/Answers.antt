use Rattle.std.proofs.Common.{◌++◌, ap, ◌∙◌}
use Rattle.generated_data.specs.Lines.{numbered}
use Rattle.generated_data.proofs.Texts.{line_of_parts}
use Rattle.generated_data.proofs.lines.add_line.Goals as goal

pub returns : goal.returns
returns c = c.in_ok-extend_from_slice.ensures.items
    ∙ ap (λ l. l ++ c.args.after.now) (c.in_ok-add_numbered-2.ensures ∙ ap (λ l. l ++ numbered c.args.before.now c.args.number) c.in_ok-add_numbered.ensures)
    ∙ line_of_parts c.args.buffer.now.items c.args.before.now c.args.after.now c.args.person c.args.number
