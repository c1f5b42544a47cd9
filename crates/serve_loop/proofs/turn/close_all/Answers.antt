-- Each key is one link more.
use Rattle.std.proofs.Common.{refl, sym, ◌∙◌, ap, arith}
use Rattle.serve_loop.proofs.SlotLemmas.{past_none}
use Rattle.serve_loop.proofs.CloseLemmas.{leaves_none, leaves_more, leaves_all, not_yet, gone_below, gone_all}
use Rattle.serve_loop.proofs.turn.close_all.Goals as goal

pub loop-key-init : goal.loop-key-init
loop-key-init g c = record { gone = λ key h. absurd (omega (arith, h)); untouched = λ key h. refl; leaves = leaves_none _ _ }

pub close_at-requires : goal.close_at-requires
close_at-requires g c = record {
  is_open = λ l e.
      let found = sym (c.loop-key.invariant.untouched c.loop-key.key (omega arith)) ∙ e in
      ap (λ x. x.is_open) (not_yet c.loop-key.key _ _ _ l c.requires.distinct c.loop-key.invariant.leaves found) ∙ c.requires.is_open c.loop-key.key l found;
}

pub loop-key-preserved : goal.loop-key-preserved
loop-key-preserved g c = record {
  gone = gone_below _ _ c.loop-key.key c.loop-key.invariant.gone c.close_at.ensures.others c.close_at.ensures.none;
  untouched = λ key h. c.close_at.ensures.others key (λ e. absurd (omega (arith, h, e))) ∙ c.loop-key.invariant.untouched key (omega (arith, h));
  leaves = leaves_more c.loop-key.key _ _ _ _ _ c.requires.distinct c.loop-key.invariant.leaves (sym (c.loop-key.invariant.untouched c.loop-key.key (omega arith))) c.close_at.ensures.closes;
}

pub returns-clause-none : goal.returns-clause-none
returns-clause-none g c = let e = c.loop-key-test.false in
    gone_all _ _ c.loop-key.key c.loop-key.invariant.gone c.loop-key.invariant.untouched (λ key h. past_none c.args.live.now c.capacity-keys.result key c.capacity-keys.ensures.slots (omega (arith, e, h)))

pub returns-clause-leaves : goal.returns-clause-leaves
returns-clause-leaves g c = let e = c.loop-key-test.false in
    leaves_all c.loop-key.key _ _ _ (λ key h. past_none c.args.live.now c.capacity-keys.result key c.capacity-keys.ensures.slots (omega (arith, e, h))) c.loop-key.invariant.leaves
