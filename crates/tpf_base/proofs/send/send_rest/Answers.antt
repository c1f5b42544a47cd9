-- Each send goes on from what was sent before.
use Rattle.std.proofs.Common.{refl, arith, ap}
use Rattle.tpf_base.proofs.SendingLemmas.{front_of, front_failed, moved_fits, sends_more, sends_stop, rest_is, stopped_idle, woken_moved, stopped_rose, allowed_then, send_not_due, failed_rose}
use Rattle.tpf_base.proofs.send.send_rest.Goals as goal

pub loop-sent-preserved : goal.loop-sent-preserved
loop-sent-preserved g c = record {
  sends = sends_more _ _ _ _ _ c.in-Moved.n _ _ _ (rest_is c.args.bytes.now c.loop-sent.sent) c.loop-sent.invariant.sends c.in-Moved.ensures.sends;
  still = λ e. let u = c.loop-sent.invariant.sends.up in let m = (c.in-Moved.ensures.sends.moved c.in-Moved.n refl).0 in absurd (omega (arith, e, u, m));
  allowed = allowed_then c.loop-sent.invariant.allowed c.send.ensures.allowed;
}

pub overflow_add-sent : goal.overflow_add-sent
overflow_add-sent g c = let f = moved_fits _ c.args.bytes.now c.loop-sent.sent c.in-Moved.n _ _ c.in-Moved.ensures.sends c.loop-sent.invariant.sends.within in omega (arith, f.1)

pub loop-sent-smaller : goal.loop-sent-smaller
loop-sent-smaller g c = let f = moved_fits _ c.args.bytes.now c.loop-sent.sent c.in-Moved.n _ _ c.in-Moved.ensures.sends c.loop-sent.invariant.sends.within in omega (arith, f.0, f.1)

pub returns-in-NotYet-clause-sends : goal.returns-in-NotYet-clause-sends
returns-in-NotYet-clause-sends g c = λ h. sends_stop _ _ _ _ _ _ _ _ _ c.loop-sent.invariant.sends c.in-NotYet.ensures.sends (λ same. absurd cc) (stopped_idle _ _ _ _ c.in-NotYet.ensures.sends).0 (stopped_idle _ _ _ _ c.in-NotYet.ensures.sends).1

pub returns-in-NotYet-clause-end_ : goal.returns-in-NotYet-clause-end_
returns-in-NotYet-clause-end_ g c = (
  c.loop-sent-test.true,
  (c.in-NotYet.ensures.sends.stalled (λ e. cc)).0,
  (c.in-NotYet.ensures.sends.stalled (λ e. cc)).1,
  stopped_rose _ _ _ _ _ c.loop-sent.invariant.sends.calls c.in-NotYet.ensures.sends,
  woken_moved _ _ _ _ _ _ _ _ c.loop-sent.invariant.sends c.loop-sent.invariant.still c.in-NotYet.ensures.sends,
)

pub returns-in-OutOfMemory-clause-sends : goal.returns-in-OutOfMemory-clause-sends
returns-in-OutOfMemory-clause-sends g c = λ h. let m = c.in-OutOfMemory.ensures.sends.memory refl in
    sends_stop _ _ _ _ _ _ _ _ _ c.loop-sent.invariant.sends c.in-OutOfMemory.ensures.sends (λ same. absurd cc) (ap (λ l. l.sent) (m.links c.args.link)) m.idle

pub returns-in-NotYet-clause-front : goal.returns-in-NotYet-clause-front
returns-in-NotYet-clause-front g c = front_of _ _ _ _ _ _ (sends_stop _ _ _ _ _ _ _ _ _ c.loop-sent.invariant.sends c.in-NotYet.ensures.sends (λ same. absurd cc) (stopped_idle _ _ _ _ c.in-NotYet.ensures.sends).0 (stopped_idle _ _ _ _ c.in-NotYet.ensures.sends).1)

pub returns-in-OutOfMemory-clause-front : goal.returns-in-OutOfMemory-clause-front
returns-in-OutOfMemory-clause-front g c = let m = c.in-OutOfMemory.ensures.sends.memory refl in
    front_of _ _ _ _ _ _ (sends_stop _ _ _ _ _ _ _ _ _ c.loop-sent.invariant.sends c.in-OutOfMemory.ensures.sends (λ same. absurd cc) (ap (λ l. l.sent) (m.links c.args.link)) m.idle)

pub returns-in-Failed-clause-front : goal.returns-in-Failed-clause-front
returns-in-Failed-clause-front g c = front_failed _ _ _ _ _ _ _ _ (rest_is c.args.bytes.now c.loop-sent.sent) c.loop-sent.invariant.sends c.in-Failed.ensures.sends

-- a send never answers the end
pub returns-in-End-clause-front : goal.returns-in-End-clause-front
returns-in-End-clause-front g c = absurd (c.in-End.ensures.sends.no_end refl)

pub returns-clause-front : goal.returns-clause-front
returns-clause-front g c = front_of _ _ _ _ _ _ c.loop-sent.invariant.sends

pub returns-in-NotYet-clause-allowed : goal.returns-in-NotYet-clause-allowed
returns-in-NotYet-clause-allowed g c = allowed_then c.loop-sent.invariant.allowed c.in-NotYet.ensures.allowed

pub returns-in-OutOfMemory-clause-allowed : goal.returns-in-OutOfMemory-clause-allowed
returns-in-OutOfMemory-clause-allowed g c = allowed_then c.loop-sent.invariant.allowed c.in-OutOfMemory.ensures.allowed

pub returns-in-Failed-clause-allowed : goal.returns-in-Failed-clause-allowed
returns-in-Failed-clause-allowed g c = allowed_then c.loop-sent.invariant.allowed c.in-Failed.ensures.allowed

pub returns-clause-allowed : goal.returns-clause-allowed
returns-clause-allowed g c = c.loop-sent.invariant.allowed

pub returns-in-Failed-clause-end_ : goal.returns-in-Failed-clause-end_
returns-in-Failed-clause-end_ g c =
    (failed_rose _ _ _ _ _ c.loop-sent.invariant.sends.calls c.in-Failed.ensures.sends, send_not_due _ _ _ _ _ c.loop-sent.invariant.sends.calls c.in-Failed.ensures.sends)

pub returns-in-End-clause-end_ : goal.returns-in-End-clause-end_
returns-in-End-clause-end_ g c = absurd (c.in-End.ensures.sends.no_end refl)
