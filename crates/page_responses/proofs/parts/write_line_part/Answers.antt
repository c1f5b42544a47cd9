-- The part is that of the line, and more or nothing of the line is left behind it.
use Rattle.std.proofs.Common.{sym, ◌∙◌}
use Rattle.page_responses.specs.Lines.{some_quad}
use Rattle.page_responses.proofs.GivenParts.{line_behind, line_over}
use Rattle.std.proofs.lemmas.Result.{IfOk-from_err}
use Rattle.page_responses.proofs.parts.write_line_part.Goals as goal

pub write_part-requires : goal.write_part-requires
write_part-requires c = c.requires.place

pub returns-in_err-write_part-clause-ok : goal.returns-in_err-write_part-clause-ok
returns-in_err-write_part-clause-ok c = λ s. IfOk-from_err _ _ c.from_residual.ensures.0

pub returns-in_err-write_part-clause-begun : goal.returns-in_err-write_part-clause-begun
returns-in_err-write_part-clause-begun c = λ s. IfOk-from_err _ _ c.from_residual.ensures.0

pub length-length-requires : goal.length-length-requires
length-length-requires c = c.requires.place

pub returns-then-branch-clause-ok : goal.returns-then-branch-clause-ok
returns-then-branch-clause-ok c =
    λ s. line_behind s c.args.lines.now c.args.place c.args.from c.args.out.now.items c.write_part.new.out.items c.requires.some (sym (c.in_ok-write_part.ensures.more some_quad) ∙ c.if-branch.true) (c.in_ok-write_part.ensures.ok some_quad)

pub returns-else-branch-clause-ok : goal.returns-else-branch-clause-ok
returns-else-branch-clause-ok c =
    λ s. line_over s c.args.lines.now c.args.place c.args.from c.args.out.now.items c.write_part.new.out.items c.requires.some (sym (c.in_ok-write_part.ensures.more some_quad) ∙ c.if-branch.false) (c.in_ok-write_part.ensures.ok some_quad)
