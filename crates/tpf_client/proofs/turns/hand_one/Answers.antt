-- The next ask, where there is one, has a ticket that no ask has that is held.
use Rattle.tpf_client.specs.Turns.{keeps_both}
use Rattle.tpf_client.proofs.Turning.{hand-fresh, hand-some, hand-quiet, asked-nothing}
use Rattle.tpf_client.proofs.turns.hand_one.Goals as goal

pub put-requires : goal.put-requires
put-requires g c =
    let m = c.requires.meets in
    record { fresh = hand-fresh g.E.Evaluates.suits g.E.Evaluates.account (keeps_both g.E.Evaluates.keeps_to g.E.Evaluates.keeps_small) g.E.Evaluates.standing c.args.evaluation.now c.next_ask.new.self c.in-Ok-Some.field-0 c.in-Ok-Some.ask c.args.asks.now m.0 c.in-Ok-Some.field-0-is c.in-Ok-Some.ensures.stands m.1 (g.met.E.Evaluates.tickets_are_below m.0.terms c.args.evaluation.now m.1.kept.0) }

pub returns-in-Ok-None-clause-none : goal.returns-in-Ok-None-clause-none
returns-in-Ok-None-clause-none g c = λ e.
    let m = c.requires.meets in
    hand-quiet g.E.Evaluates.suits g.E.Evaluates.account (keeps_both g.E.Evaluates.keeps_to g.E.Evaluates.keeps_small) g.E.Evaluates.standing c.args.evaluation.now c.next_ask.new.self c.in-Ok-None.field-0 c.args.asks.now c.in-Ok-None.field-0-is c.in-Ok-None.ensures.stands
    (c.next_ask.ensures.quiet m.0.terms m.1.kept.0 (asked-nothing c.next_ask.result c.in-Ok-None.field-0 c.in-Ok-None.is c.in-Ok-None.field-0-is)) (λ limits k. (c.in-Ok-None.ensures.keeps limits.terms k.0, c.in-Ok-None.ensures.small limits.sizes k.1)) c.in-Ok-None.ensures.suits c.in-Ok-None.ensures.owes

pub returns-in-Ok-clause-some : goal.returns-in-Ok-clause-some
returns-in-Ok-clause-some g c = λ e. (
  record { ticket = c.in-Ok-Some.ask.ticket; address = c.in-Ok-Some.ask.address },
  hand-some g.E.Evaluates.suits g.E.Evaluates.account (keeps_both g.E.Evaluates.keeps_to g.E.Evaluates.keeps_small) g.E.Evaluates.standing c.args.evaluation.now c.next_ask.new.self c.in-Ok-Some.field-0 c.in-Ok-Some.ask c.args.asks.now c.put.new.self c.in-Ok-Some.field-0-is c.in-Ok.ensures.ok c.in-Ok-Some.ensures.stands
      (λ limits k. (c.in-Ok-Some.ensures.keeps limits.terms k.0, c.in-Ok-Some.ensures.small limits.sizes k.1)) (λ limits k. g.met.E.Evaluates.out_is_small limits.terms limits.sizes c.next_ask.new.self k.0 k.1)
      (λ limits k. c.in-Ok-Some.ensures.at_home limits.terms k.0) c.in-Ok-Some.ensures.suits c.in-Ok-Some.ensures.owes,
)
