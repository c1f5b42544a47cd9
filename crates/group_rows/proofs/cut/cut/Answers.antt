use Rattle.std.proofs.Common.{sym, ◌∙◌}
use Rattle.group_rows.proofs.Selections.{cut_whole}
use Rattle.group_rows.proofs.cut.cut.Goals as goal

pub returns-then-all_set : goal.returns-then-all_set
returns-then-all_set c = cut_whole c.args.flags.now c.args.rows.items (sym c.all_set.ensures ∙ c.if-all_set.true)
