-- Each key is one link more.
use Rattle.std.proofs.Common.{inl, inr, ap, sym, ◌∙◌, arith}
use Rattle.serve_loop.proofs.BelowLemmas.{below_or, last_or}
use Rattle.serve_loop.proofs.RelatesLemmas.{none_some}
use Rattle.serve_loop.proofs.SlotLemmas.{past_none}
use Rattle.slab.specs.Slab.{get}
use Rattle.serve_loop.proofs.numbers.oldest_from.Goals as goal

pub loop-key-init : goal.loop-key-init
loop-key-init g c = record { next = omega arith; oldest = λ key x below. absurd (omega (arith, below)) }

pub loop-key-preserved : goal.loop-key-preserved
loop-key-preserved g c = record {
  next = c.older_at-oldest.ensures.next;
  oldest = λ key x below found from. elim (last_or key c.loop-key.key below) [
    | inl p ↦ c.older_at-oldest.ensures.this x (ap (get c.args.live.now) (sym p) ∙ found) from
    | inr q ↦ let older = c.older_at-oldest.ensures.older in let h = c.loop-key.invariant.oldest key x q found from in omega (arith, older, h)
  ];
}

pub returns-clause-oldest : goal.returns-clause-oldest
returns-clause-oldest g c = let e = c.loop-key-test.false in
    λ key x found from. elim (below_or key c.loop-key.key) [
      | inl p ↦ c.loop-key.invariant.oldest key x p found from
      | inr q ↦ absurd (none_some x (sym (past_none c.args.live.now c.capacity-keys.result key c.capacity-keys.ensures.slots (omega (arith, e, q))) ∙ found))
    ]
