-- Each key is one link more.
use Rattle.std.proofs.Common.{inl, inr, ap, sym, ◌∙◌, arith}
use Rattle.serve_loop.proofs.BelowLemmas.{below_or, last_or}
use Rattle.serve_loop.proofs.RelatesLemmas.{none_some}
use Rattle.serve_loop.proofs.SlotLemmas.{past_none}
use Rattle.slab.specs.Slab.{get}
use Rattle.serve_loop.proofs.numbers.beyond.Goals as goal

pub loop-key-init : goal.loop-key-init
loop-key-init g c = record { all = λ key x below. absurd (omega (arith, below)); less = λ key x below. absurd (omega (arith, below)); within = λ n h. omega arith }

pub loop-key-preserved : goal.loop-key-preserved
loop-key-preserved g c = record {
  all = λ key x below found. elim (last_or key c.loop-key.key below) [
    | inl p ↦ c.later_at-beyond.ensures.this x (ap (get c.args.live.now) (sym p) ∙ found)
    | inr q ↦ let later = c.later_at-beyond.ensures.later in let h = c.loop-key.invariant.all key x q found in omega (arith, later, h)
  ];
  less = λ key x below found few. elim (last_or key c.loop-key.key below) [
    | inl p ↦ c.later_at-beyond.ensures.less x (ap (get c.args.live.now) (sym p) ∙ found) few
    | inr q ↦ let later = c.later_at-beyond.ensures.later in let h = c.loop-key.invariant.less key x q found few in omega (arith, later, h)
  ];
  within = λ n h. c.later_at-beyond.ensures.within n (c.loop-key.invariant.within n h) (λ x found. h c.loop-key.key x found);
}

pub returns : goal.returns
returns g c = let e = c.loop-key-test.false in record {
  all = λ key x found. elim (below_or key c.loop-key.key) [
    | inl p ↦ c.loop-key.invariant.all key x p found
    | inr q ↦ absurd (none_some x (sym (past_none c.args.live.now c.capacity-keys.result key c.capacity-keys.ensures.slots (omega (arith, e, q))) ∙ found))
  ];
  less = λ key x found few. elim (below_or key c.loop-key.key) [
    | inl p ↦ c.loop-key.invariant.less key x p found few
    | inr q ↦ absurd (none_some x (sym (past_none c.args.live.now c.capacity-keys.result key c.capacity-keys.ensures.slots (omega (arith, e, q))) ∙ found))
  ];
  within = c.loop-key.invariant.within;
}
