-- One ask more at each turn.
use Rattle.std.proofs.Common.{Bool, [], ◌++◌, ◌∷◌, sym, ap, subst}
use Rattle.std.specs.Prelude.{Ok}
use Rattle.request_pool.specs.Pools.{Pooled}
use Rattle.tpf_client.specs.Turns.{keeps_both, Hands}
use Rattle.tpf_client.proofs.Turning.{hands-nothing, hand-then, one-more, none-more}
use Rattle.tpf_client.proofs.turns.hand_over.Goals as goal

pub asks-init : goal.asks-init
asks-init g c = record {
  hands = ([], hands-nothing g.E.Evaluates.suits g.E.Evaluates.account (keeps_both g.E.Evaluates.keeps_to g.E.Evaluates.keeps_small) g.E.Evaluates.standing c.args.evaluation.now c.args.asks.now);
  counts = c.requires.given;
}

pub hand_one-requires-clause-meets : goal.hand_one-requires-clause-meets
hand_one-requires-clause-meets g c = let m = c.requires.meets in (m.0, c.asks.invariant.hands.1.meets m.0 m.1)

pub asks-preserved : goal.asks-preserved
asks-preserved g c =
    let i = c.asks.invariant in
    let one = c.in-Ok.ensures.some (ap (λ (b : Bool). Ok b) c.if-not-some.false) in
    record {
      hands = (i.hands.0 ++ one.0 ∷ [], hand-then g.E.Evaluates.suits g.E.Evaluates.account (keeps_both g.E.Evaluates.keeps_to g.E.Evaluates.keeps_small) g.E.Evaluates.standing c.args.evaluation.now c.asks.evaluation c.hand_one.new.evaluation i.hands.0 (one.0 ∷ []) c.args.asks.now c.asks.asks c.hand_one.new.asks i.hands.1 one.1);
      counts = one-more one.0 c.asks.tickets _ _ i.counts one.1.given;
    }

pub returns-then-not-some-clause-ok : goal.returns-then-not-some-clause-ok
returns-then-not-some-clause-ok g c =
    let i = c.asks.invariant in
    let none = c.in-Ok.ensures.none (ap (λ (b : Bool). Ok b) c.if-not-some.true) in
    (i.hands.0 ++ [], hand-then g.E.Evaluates.suits g.E.Evaluates.account (keeps_both g.E.Evaluates.keeps_to g.E.Evaluates.keeps_small) g.E.Evaluates.standing c.args.evaluation.now c.asks.evaluation c.hand_one.new.evaluation i.hands.0 [] c.args.asks.now c.asks.asks c.hand_one.new.asks i.hands.1 none.0, none.1)

pub returns-then-not-some-clause-given : goal.returns-then-not-some-clause-given
returns-then-not-some-clause-given g c =
    let none = c.in-Ok.ensures.none (ap (λ (b : Bool). Ok b) c.if-not-some.true) in
    none-more c.asks.tickets _ _ c.asks.invariant.counts none.0.given

pub returns-in-Err-clause-err : goal.returns-in-Err-clause-err
returns-in-Err-clause-err g c =
    let i = c.asks.invariant in
    (i.hands.0, c.asks.evaluation, subst (λ (p : Pooled). Hands g.E.Evaluates.suits g.E.Evaluates.account (keeps_both g.E.Evaluates.keeps_to g.E.Evaluates.keeps_small) g.E.Evaluates.standing c.args.evaluation.now c.asks.evaluation i.hands.0 c.args.asks.now p) (sym c.in-Err.ensures.err) i.hands.1)

pub returns-clause-err : goal.returns-clause-err
returns-clause-err g c = let i = c.asks.invariant in (i.hands.0, c.asks.evaluation, i.hands.1)
