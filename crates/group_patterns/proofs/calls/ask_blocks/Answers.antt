-- The blocks of the steps are those of the group.
use Rattle.std.proofs.Common.{ℕ, List, length, ap, subst, sym, ◌∙◌}
use Rattle.bgp_core.specs.Queries.{QueryData}
use Rattle.group_query.specs.Trees.{TreeFits, tree_of}
use Rattle.group_patterns.specs.Blocks.{AsksSome}
use Rattle.group_patterns.specs.Asking.{AsksBlocks}
use Rattle.group_patterns.proofs.Steps.{blocks-fit}
use Rattle.group_patterns.proofs.Progressing.{of-group}
use Rattle.group_patterns.proofs.calls.ask_blocks.Goals as goal

pub ask_all-requires-clause-fit : goal.ask_all-requires-clause-fit
ask_all-requires-clause-fit g c =
    let ss = c.steps.result.now in
    blocks-fit (length c.names-names.result.now) ss c.steps.ensures.postfix (subst (λ (l : List (List ℕ)). TreeFits (length l) (tree_of ss)) (sym (c.names-names.ensures ∙ ap (λ (q : QueryData). q.names) c.shown.ensures)) c.steps.ensures.fit)

pub returns-in-Ok-clause-ok : goal.returns-in-Ok-clause-ok
returns-in-Ok-clause-ok g c =
    of-group (g.W.Wire.allows c.args.wire.now) c.args.options.now c.args.start.now c.names-names.result.now (λ names blocks. AsksBlocks (g.W.Wire.allows c.args.wire.now) c.args.options.now c.args.start.now names blocks c.ask_all.new.self (g.W.Wire.state c.args.wire.now) (g.W.Wire.state c.ask_all.new.wire))
    c.shown.result.now c.args.query.now c.steps.result.now c.names-names.ensures c.shown.ensures c.steps.ensures.value c.steps.ensures.postfix c.in-Ok.ensures.ok

pub returns-in-Err-clause-err : goal.returns-in-Err-clause-err
returns-in-Err-clause-err g c =
    of-group (g.W.Wire.allows c.args.wire.now) c.args.options.now c.args.start.now c.names-names.result.now (λ names blocks. AsksSome (g.W.Wire.allows c.args.wire.now) c.args.options.now c.args.start.now names blocks c.in-Err.fault (g.W.Wire.state c.args.wire.now) (g.W.Wire.state c.ask_all.new.wire))
    c.shown.result.now c.args.query.now c.steps.result.now c.names-names.ensures c.shown.ensures c.steps.ensures.value c.steps.ensures.postfix c.in-Err.ensures.err
