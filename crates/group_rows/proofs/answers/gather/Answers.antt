use Rattle.std.proofs.Common.{◌∙◌}
use Rattle.group_rows.proofs.Steps.{gathers, top_is, none_left}
use Rattle.group_rows.proofs.answers.gather.Goals as goal

pub returns-in-Some : goal.returns-in-Some
returns-in-Some c =
    let left = gathers c.args.query.now c.names-names.result.now c.shown.result.now c.steps.result.now c.args.blocks.items c.in_ok-stack.stack.items c.names-names.ensures c.shown.ensures c.steps.ensures.value c.steps.ensures.postfix c.in_ok-stack.ensures in
    c.into_vec.ensures ∙ top_is _ c.in-Some.rows c.in_ok-stack.stack.items c.pop_front.new.self.items left c.in-Some.ensures.items

pub returns : goal.returns
returns c =
    let left = gathers c.args.query.now c.names-names.result.now c.shown.result.now c.steps.result.now c.args.blocks.items c.in_ok-stack.stack.items c.names-names.ensures c.shown.ensures c.steps.ensures.value c.steps.ensures.postfix c.in_ok-stack.ensures in
    absurd (none_left _ c.in_ok-stack.stack.items c.pop_front.new.self.items left c.in-None.ensures.items c.in-None.ensures.rest)
