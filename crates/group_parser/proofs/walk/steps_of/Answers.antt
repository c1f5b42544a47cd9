use Rattle.std.proofs.Common.{◌≡◌, ◌∙◌, length, arith}
use Rattle.std.specs.BTreeMap.{get_by_text}
use Rattle.std.proofs.lemmas.Result.{IfOk-weaker}
use Rattle.group_parser.proofs.Tokens.{end_walk}
use Rattle.group_parser.proofs.walk.steps_of.Goals as goal

pub returns-clause-steps : goal.returns-clause-steps
returns-clause-steps c =
    let ws = c.args.words.now in
    let l = c.loop-i in
    let all : l.i ≡ length ws = omega arith in
    IfOk-weaker c.finish.result _ _ (λ v k. k ∙ end_walk (λ q. get_by_text c.args.prefixes.now q) l.names.texts.items l.walk ws l.from l.i c.args.names.now.texts.items _ all l.invariant.walk c.in_ok-take_run.ensures.walk) c.finish.ensures
