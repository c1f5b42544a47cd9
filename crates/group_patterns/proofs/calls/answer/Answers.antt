-- What the call promises, from what it wrote and what it asked.
use Rattle.tpf_client.specs.Offers.{publisher}
use Rattle.tpf_client.proofs.Shutting.{if-ok-from, if-err-from, on-err-of}
use Rattle.tpf_client.proofs.Completing.{completes}
use Rattle.group_patterns.specs.Plans.{group_offer}
use Rattle.group_patterns.proofs.Known.{group-written, prefix-written, answers-written, front-written}
use Rattle.group_patterns.proofs.Acting.{ends-groups}
use Rattle.group_patterns.proofs.Still.{wants}
use Rattle.group_patterns.proofs.calls.answer.Goals as goal

pub returns-clause-whole : goal.returns-clause-whole
returns-clause-whole g c = if-ok-from c.write_answers.result _ _ c.write_answers.ensures.ok (λ report w. group-written (g.W.Wire.allows c.args.wire.now) c.args.options.now c.args.start.now c.args.query.now report (g.W.Wire.state c.args.wire.now) (g.W.Wire.state c.write_answers.new.wire) _ _ w)

pub returns-clause-front : goal.returns-clause-front
returns-clause-front g c = on-err-of c.write_answers.result _ _ (λ fault w. prefix-written (g.W.Wire.allows c.args.wire.now) c.args.options.now c.args.start.now c.args.query.now fault (g.W.Wire.state c.args.wire.now) (g.W.Wire.state c.write_answers.new.wire) _ _ w) c.write_answers.ensures.err

pub returns-clause-headline : goal.returns-clause-headline
returns-clause-headline g c = λ history config honest.
    if-ok-from c.write_answers.result _ _ c.write_answers.ensures.ok (λ report w. answers-written c.solutions_suffice.ensures (g.W.Wire.allows c.args.wire.now) c.args.options.now c.args.start.now c.args.query.now report (g.W.Wire.state c.args.wire.now) (g.W.Wire.state c.write_answers.new.wire) _ _ history config honest w)

pub returns-clause-prefix : goal.returns-clause-prefix
returns-clause-prefix g c = λ history config honest.
    on-err-of c.write_answers.result _ _ (λ fault w. front-written c.solutions_suffice.ensures (g.W.Wire.allows c.args.wire.now) c.args.options.now c.args.start.now c.args.query.now fault (g.W.Wire.state c.args.wire.now) (g.W.Wire.state c.write_answers.new.wire) _ _ history config honest w) c.write_answers.ensures.err

pub returns-clause-ended : goal.returns-clause-ended
returns-clause-ended g c =
    ends-groups (g.W.Wire.allows c.args.wire.now) c.args.options.now c.args.start.now c.args.query.now (g.W.Wire.state c.args.wire.now) (g.W.Wire.state c.write_answers.new.wire) (g.K.Sink.state c.args.out.now) (g.K.Sink.state c.write_answers.new.out)
    c.write_answers.result c.write_answers.ensures.sink.sink c.write_answers.ensures.ok c.write_answers.ensures.err

pub returns-clause-complete : goal.returns-clause-complete
returns-clause-complete g c = λ history config honest alive rise few fits none.
    let acts = (returns-clause-ended g c).acts in
    completes (group_offer (publisher history config) c.args.query.now c.args.start.now) c.args.options.now (g.W.Wire.state c.args.wire.now) (g.W.Wire.state c.write_answers.new.wire) rise few fits c.write_answers.result
    (acts.plan.honest_cause (publisher history config) honest) (acts.plan.lively_cause (publisher history config) honest alive) (λ e. none (c.write_answers.ensures.sink.sink e))

pub returns-clause-still : goal.returns-clause-still
returns-clause-still g c = λ p version over tells alive rise few fits none.
    wants (g.W.Wire.allows c.args.wire.now) c.args.options.now c.args.start.now c.args.query.now (g.W.Wire.state c.args.wire.now) (g.W.Wire.state c.write_answers.new.wire) p version over tells alive rise few fits
    c.write_answers.result (if-err-from c.write_answers.result _ _ c.write_answers.ensures.err (λ fault w. w.asks)) (λ e. none (c.write_answers.ensures.sink.sink e))
