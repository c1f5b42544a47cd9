-- Each receive goes on from what came before.
use Rattle.std.proofs.Common.{ℕ, ◌≡◌, refl, sym, ◌∙◌, ap, arith, [], length-take-le}
use Rattle.exchange.proofs.ReceivingLemmas.{received_more, received_lost, received_stop, end_rose, failed_rose, woken_received, longer_by, told_holds, end_not_due, receive_not_due}
use Rattle.tpf_base.specs.HttpReply.{is_open}
use Rattle.tpf_base.specs.declared.wire.Moved.TheVariants as answers
use Rattle.tpf_base.proofs.SendingLemmas.{rose_on, allowed_then}
use Rattle.exchange.proofs.receiving.receive.Goals as goal

moved_able : (n : ℕ) → answers.Moved n ≡ answers.OutOfMemory → ⊥
moved_able n e = cc

not_yet_able : answers.NotYet ≡ answers.OutOfMemory → ⊥
not_yet_able e = cc

pub recv-requires-clause-is_open : goal.recv-requires-clause-is_open
recv-requires-clause-is_open g c = c.loop-n.invariant.comes.calls.is_open ∙ c.requires.is_open

pub slice_bounds-read-end : goal.slice_bounds-read-end
slice_bounds-read-end g c = (c.in-Moved.ensures.receives.moved c.in-Moved.n refl).1

pub slice_bounds-read-end-in-Moved : goal.slice_bounds-read-end-in-Moved
slice_bounds-read-end-in-Moved g c = sym (length-take-le _ _ (c.in-Moved.ensures.receives.moved c.in-Moved.n refl).1)

pub read-requires-clause-goes_on : goal.read-requires-clause-goes_on
read-requires-clause-goes_on g c = c.loop-n.invariant.goes_on

pub loop-n-smaller : goal.loop-n-smaller
loop-n-smaller g c =
    let m = c.in-Moved.ensures.receives.moved c.in-Moved.n refl in
    let l = longer_by _ _ _ _ c.in-Ok-true.ensures.received m.0 m.1 in
    omega (arith, l, m.0, c.in-Ok-true.ensures.bound, c.in-Ok-true.ensures.limit)

pub loop-n-preserved : goal.loop-n-preserved
loop-n-preserved g c =
    let m = c.in-Moved.ensures.receives.moved c.in-Moved.n refl in
    let l = longer_by _ _ _ _ c.in-Ok-true.ensures.received m.0 m.1 in
    let up = c.loop-n.invariant.up in
    record {
      comes = received_more _ _ _ _ _ _ _ _ _ c.loop-n.invariant.comes c.in-Moved.ensures.receives c.in-Ok-true.ensures.received c.in-Ok-true.ensures.limit;
      goes_on = c.in-Ok-true.ensures.goes_on ∙ c.in-Ok-true.field-0-test;
      up = omega (arith, l, up);
      moved = λ h. m.4;
      still = λ e. absurd (omega (arith, l, up, m.0, e));
      allowed = allowed_then c.loop-n.invariant.allowed c.recv.ensures.allowed;
    }

pub returns-in-Ok-false-clause-receives : goal.returns-in-Ok-false-clause-receives
returns-in-Ok-false-clause-receives g c =
    ([], received_more _ _ _ _ _ _ _ _ _ c.loop-n.invariant.comes c.in-Moved.ensures.receives c.in-Ok-false.ensures.received c.in-Ok-false.ensures.limit, λ h. refl)

pub returns-in-Ok-false-clause-end_ : goal.returns-in-Ok-false-clause-end_
returns-in-Ok-false-clause-end_ g c =
    (c.in-Ok-false.ensures.goes_on ∙ c.in-Ok-false.field-0-test, (c.in-Moved.ensures.receives.moved c.in-Moved.n refl).4, (c.in-Moved.ensures.receives.stalled (moved_able c.in-Moved.n)).0)

pub returns-in-Ok-false-clause-allowed : goal.returns-in-Ok-false-clause-allowed
returns-in-Ok-false-clause-allowed g c = allowed_then c.loop-n.invariant.allowed c.in-Moved.ensures.allowed

pub returns-in-Err-clause-receives : goal.returns-in-Err-clause-receives
returns-in-Err-clause-receives g c = (_, received_lost _ _ _ _ _ _ _ _ _ c.loop-n.invariant.comes c.in-Moved.ensures.receives c.in-Err.ensures.err, λ h. absurd (h refl))

pub returns-in-Err-clause-end_ : goal.returns-in-Err-clause-end_
returns-in-Err-clause-end_ g c = ap (λ i. is_open i.place) c.in-Err.ensures.err ∙ c.loop-n.invariant.goes_on

pub returns-in-Err-clause-allowed : goal.returns-in-Err-clause-allowed
returns-in-Err-clause-allowed g c = allowed_then c.loop-n.invariant.allowed c.in-Moved.ensures.allowed

pub returns-in-End-clause-receives : goal.returns-in-End-clause-receives
returns-in-End-clause-receives g c = ([], received_stop _ _ _ _ _ _ _ _ c.loop-n.invariant.comes c.in-End.ensures.receives (c.in-End.ensures.receives.end_ refl).0, λ h. refl)

pub returns-in-End-clause-end_ : goal.returns-in-End-clause-end_
returns-in-End-clause-end_ g c = let e = c.in-End.ensures.receives.end_ refl in (c.loop-n.invariant.goes_on, e.2, told_holds _ _ _ e.1, end_rose _ _ _ _ _ c.loop-n.invariant.comes.calls c.in-End.ensures.receives, end_not_due _ _ _ _ _ c.loop-n.invariant.comes.calls c.in-End.ensures.receives)

pub returns-in-End-clause-allowed : goal.returns-in-End-clause-allowed
returns-in-End-clause-allowed g c = allowed_then c.loop-n.invariant.allowed c.in-End.ensures.allowed

pub returns-in-NotYet-clause-receives : goal.returns-in-NotYet-clause-receives
returns-in-NotYet-clause-receives g c = ([], received_stop _ _ _ _ _ _ _ _ c.loop-n.invariant.comes c.in-NotYet.ensures.receives (c.in-NotYet.ensures.receives.not_yet refl).0, λ h. refl)

pub returns-in-NotYet-clause-end_ : goal.returns-in-NotYet-clause-end_
returns-in-NotYet-clause-end_ g c = (
  c.loop-n.invariant.goes_on,
  (c.in-NotYet.ensures.receives.stalled not_yet_able).0,
  (c.in-NotYet.ensures.receives.stalled not_yet_able).1,
  rose_on _ _ _ c.loop-n.invariant.comes.calls.stalls (c.in-NotYet.ensures.receives.not_yet refl).2,
  woken_received _ _ _ _ _ _ _ c.loop-n.invariant.up c.loop-n.invariant.moved c.loop-n.invariant.still c.in-NotYet.ensures.receives,
)

pub returns-in-NotYet-clause-allowed : goal.returns-in-NotYet-clause-allowed
returns-in-NotYet-clause-allowed g c = allowed_then c.loop-n.invariant.allowed c.in-NotYet.ensures.allowed

pub returns-in-Failed-clause-receives : goal.returns-in-Failed-clause-receives
returns-in-Failed-clause-receives g c = ([], received_stop _ _ _ _ _ _ _ _ c.loop-n.invariant.comes c.in-Failed.ensures.receives (c.in-Failed.ensures.receives.failed refl).0, λ h. refl)

pub returns-in-Failed-clause-end_ : goal.returns-in-Failed-clause-end_
returns-in-Failed-clause-end_ g c = (c.loop-n.invariant.goes_on, failed_rose _ _ _ _ _ c.loop-n.invariant.comes.calls c.in-Failed.ensures.receives, receive_not_due _ _ _ _ _ c.loop-n.invariant.comes.calls c.in-Failed.ensures.receives)

pub returns-in-Failed-clause-allowed : goal.returns-in-Failed-clause-allowed
returns-in-Failed-clause-allowed g c = allowed_then c.loop-n.invariant.allowed c.in-Failed.ensures.allowed

pub returns-in-OutOfMemory-clause-receives : goal.returns-in-OutOfMemory-clause-receives
returns-in-OutOfMemory-clause-receives g c = ([], received_stop _ _ _ _ _ _ _ _ c.loop-n.invariant.comes c.in-OutOfMemory.ensures.receives (ap (λ l. l.received) ((c.in-OutOfMemory.ensures.receives.memory refl).links c.args.link)), λ h. refl)

pub returns-in-OutOfMemory-clause-end_ : goal.returns-in-OutOfMemory-clause-end_
returns-in-OutOfMemory-clause-end_ g c = c.loop-n.invariant.goes_on

pub returns-in-OutOfMemory-clause-allowed : goal.returns-in-OutOfMemory-clause-allowed
returns-in-OutOfMemory-clause-allowed g c = allowed_then c.loop-n.invariant.allowed c.in-OutOfMemory.ensures.allowed
