-- Each key is one step more.
use Rattle.std.proofs.Common.{refl, sym, ◌∙◌, ap, arith}
use Rattle.serve_loop.specs.Parts.{among}
use Rattle.serve_loop.proofs.SlotLemmas.{past_none}
use Rattle.serve_loop.proofs.AskLemmas.{answers_below, answers_more, answers_all}
use Rattle.serve_loop.proofs.BelowLemmas.{below_none, below_more, below_all}
use Rattle.serve_loop.proofs.PartLemmas.{among_vacant, parted_alone}
use Rattle.serve_loop.proofs.LastLemmas.{go_on_none, go_on_more, go_on_all}
use Rattle.serve_loop.proofs.TurnLemmas.{turns_none, turns_more, counts_with, fewer_as}
use Rattle.serve_loop.proofs.turn.step_all.Goals as goal

pub loop-key-init : goal.loop-key-init
loop-key-init g c = record {
  room = refl;
  suits = c.requires.suits;
  len = omega arith;
  few = omega arith;
  untouched = λ key h. refl;
  turns = λ first since t r. turns_none _ _ _ _ _ _ _ _ r;
  asks = λ w. answers_below _ _ _ _;
  lasts = go_on_none _ _ _;
  below = below_none _ _ _;
  follows = g.met.C.Server.Serves.follows_itself c.args.server.now;
  keeps = g.met.S.Supply.keeps_itself c.args.supply.now;
  same = λ d. (λ x. x, λ x. x);
}

pub loop-key-preserved : goal.loop-key-preserved
loop-key-preserved g c = record {
  room = c.step_among.ensures.room ∙ c.loop-key.invariant.room;
  suits = c.step_among.ensures.suits;
  len = counts_with c.loop-key.turned _ c.step_among.result _ _ _ c.with-turned.ensures c.loop-key.invariant.len c.step_among.ensures.len;
  few = fewer_as c.loop-key.turned _ c.step_among.result c.with-turned.ensures c.loop-key.invariant.few;
  untouched = λ key h. c.step_among.ensures.others key (λ e. absurd (omega (arith, h, e))) ∙ c.loop-key.invariant.untouched key (omega (arith, h));
  turns = λ first since t r. turns_more _ _ _ _ _ _ c.loop-key.turned _ c.step_among.result _ _ _ _ _ _ _ c.loop-key.invariant.same c.with-turned.ensures (c.loop-key.invariant.turns first since t r)
      (λ u q. c.step_among.ensures.turns first since u q);
  asks = λ w. answers_more _ _ _ _ c.loop-key.key _ _ _ _ (λ d. (c.loop-key.invariant.same d).0) (c.loop-key.invariant.asks w)
      (ap (λ o. among c.args.part o) (sym (c.loop-key.invariant.untouched c.loop-key.key (omega arith)))) (c.step_among.ensures.asks w);
  lasts = go_on_more _ c.loop-key.key _ _ _ _ c.loop-key.invariant.lasts (ap (λ o. among c.args.part o) (c.loop-key.invariant.untouched c.loop-key.key (omega arith)))
      c.step_among.ensures.others c.step_among.ensures.lasts;
  below = below_more _ c.loop-key.turned _ c.loop-key.key _ _ _ _ _ c.step_among.result (parted_alone c.args.part _ c.requires.suits.distinct) c.with-turned.ensures c.loop-key.invariant.below
      (ap (λ o. among c.args.part o) (sym (c.loop-key.invariant.untouched c.loop-key.key (omega arith)))) c.step_among.ensures.calls;
  follows = g.met.C.Server.Serves.follows_then _ _ _ c.loop-key.invariant.follows c.step_among.ensures.follows;
  keeps = g.met.S.Supply.keeps_then _ _ _ c.loop-key.invariant.keeps c.step_among.ensures.keeps;
  same = λ d. (λ x. (c.loop-key.invariant.same d).0 ((c.step_among.ensures.same d).0 x), λ x. (c.step_among.ensures.same d).1 ((c.loop-key.invariant.same d).1 x));
}

pub returns-clause-all : goal.returns-clause-all
returns-clause-all g c = let e = c.loop-key-test.false in
    below_all _ c.loop-key.turned c.loop-key.key _ _ _ (λ key h. among_vacant c.args.part _ (past_none c.args.live.now c.capacity-keys.result key c.capacity-keys.ensures.slots (omega (arith, e, h)))) c.loop-key.invariant.below

pub returns-clause-asks : goal.returns-clause-asks
returns-clause-asks g c = let e = c.loop-key-test.false in
    λ w. answers_all _ _ _ c.loop-key.key _ _ (λ key h. among_vacant c.args.part _ (past_none c.args.live.now c.capacity-keys.result key c.capacity-keys.ensures.slots (omega (arith, e, h)))) (c.loop-key.invariant.asks w)

pub returns-clause-lasts : goal.returns-clause-lasts
returns-clause-lasts g c = let e = c.loop-key-test.false in
    go_on_all _ c.loop-key.key _ _ (λ key h. among_vacant c.args.part _ (past_none c.args.live.now c.capacity-keys.result key c.capacity-keys.ensures.slots (omega (arith, e, h)))) c.loop-key.invariant.lasts

pub returns-clause-turns : goal.returns-clause-turns
returns-clause-turns g c = c.loop-key.invariant.turns

pub returns-clause-same : goal.returns-clause-same
returns-clause-same g c = c.loop-key.invariant.same

pub returns-clause-suits : goal.returns-clause-suits
returns-clause-suits g c = c.loop-key.invariant.suits

pub returns-clause-len : goal.returns-clause-len
returns-clause-len g c = c.loop-key.invariant.len

pub returns-clause-keeps : goal.returns-clause-keeps
returns-clause-keeps g c = c.loop-key.invariant.keeps

pub returns-clause-follows : goal.returns-clause-follows
returns-clause-follows g c = c.loop-key.invariant.follows

pub step_among-requires-clause-suits : goal.step_among-requires-clause-suits
step_among-requires-clause-suits g c = c.loop-key.invariant.suits
