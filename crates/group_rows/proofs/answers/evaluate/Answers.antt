use Rattle.group_rows.proofs.Groups.{group_width}
use Rattle.group_rows.proofs.answers.evaluate.Goals as goal

pub show-requires : goal.show-requires
show-requires c = group_width c.args.query.now c.shown.result.now c.args.blocks.items c.in_ok-rows.rows.items c.requires c.shown.ensures c.in_ok-rows.ensures
