-- What was sent comes behind what was sent before.
use Rattle.std.proofs.Common.{◌≡◌, refl, sym, ◌∙◌, ap, length}
use Rattle.exchange.proofs.PollLemmas.{send_pending, send_broken, send_failed, send_done, as_result, rose_then, sends_as, front_as, less_as, handed_as}
use Rattle.tpf_base.specs.HttpReply.{is_open}
use Rattle.tpf_base.specs.declared.send.Halt.TheVariants as halts
use Rattle.exchange.proofs.IncomingLemmas.{open_reads_more}
use Rattle.tpf_base.proofs.SendingLemmas.{allowed_then}
use Rattle.exchange.proofs.TouchLemmas.{open_of, open_then, closed_then, within_as, whole_taken}
use Rattle.exchange.proofs.exchange.Exchange.send.Goals as goal

done_able : halts.Done ≡ halts.Failed → ⊥
done_able e = cc

not_yet_able : halts.NotYet ≡ halts.Failed → ⊥
not_yet_able e = cc

pub send_rest-requires-clause-is_open : goal.send_rest-requires-clause-is_open
send_rest-requires-clause-is_open g c = c.requires.is_open

pub send_rest-requires-clause-within : goal.send_rest-requires-clause-within
send_rest-requires-clause-within g c = within_as _ _ _ (sym c.as_slice.ensures.value) c.self.invariant.within

pub invariant_of-self : goal.invariant_of-self
invariant_of-self g c = record { is_request = c.self.invariant.is_request; within = within_as _ _ _ c.as_slice.ensures.value c.send_rest.ensures.within; goes_on = c.self.invariant.goes_on }

pub receive_reply-requires-clause-underway : goal.receive_reply-requires-clause-underway
receive_reply-requires-clause-underway g c = ap (λ x. x.standing) c.self.view_is ∙ c.requires.underway

pub receive_reply-requires-clause-link : goal.receive_reply-requires-clause-link
receive_reply-requires-clause-link g c = ap (λ x. x.link) c.self.view_is ∙ c.requires.link

pub receive_reply-requires-clause-sent : goal.receive_reply-requires-clause-sent
receive_reply-requires-clause-sent g c = whole_taken _ _ _ c.as_slice.ensures.value c.in-Done.ensures.end_ ∙ c.self.invariant.is_request

pub receive_reply-requires-clause-is_open : goal.receive_reply-requires-clause-is_open
receive_reply-requires-clause-is_open g c = c.send_rest.ensures.front.calls.is_open ∙ c.requires.is_open

pub invariant_of-self-in-NotYet : goal.invariant_of-self-in-NotYet
invariant_of-self-in-NotYet g c = record { is_request = c.self.invariant.is_request; within = within_as _ _ _ c.as_slice.ensures.value c.send_rest.ensures.within; goes_on = c.self.invariant.goes_on }

pub invariant_of-self-in-Failed : goal.invariant_of-self-in-Failed
invariant_of-self-in-Failed g c = record { is_request = c.self.invariant.is_request; within = within_as _ _ _ c.as_slice.ensures.value c.send_rest.ensures.within; goes_on = c.self.invariant.goes_on }

pub break_off-requires : goal.break_off-requires
break_off-requires g c = record { is_open = c.send_rest.ensures.front.calls.is_open ∙ c.requires.is_open }

pub invariant_of-self-in-OutOfMemory : goal.invariant_of-self-in-OutOfMemory
invariant_of-self-in-OutOfMemory g c = record { is_request = c.self.invariant.is_request; within = within_as _ _ _ c.as_slice.ensures.value c.send_rest.ensures.within; goes_on = c.self.invariant.goes_on }

pub break_off-requires-in-OutOfMemory : goal.break_off-requires-in-OutOfMemory
break_off-requires-in-OutOfMemory g c = record { is_open = c.send_rest.ensures.front.calls.is_open ∙ c.requires.is_open }

pub returns-in-Done-clause-touches : goal.returns-in-Done-clause-touches
returns-in-Done-clause-touches g c = record {
  address = c.receive_reply.ensures.touches.address ∙ ap (λ x. x.address) c.self.view_is;
  limit = c.receive_reply.ensures.touches.limit ∙ ap (λ x. x.limit) c.self.view_is;
  link = c.receive_reply.ensures.touches.link;
  calls = open_then _ _ _ _ c.send_rest.ensures.front.calls c.receive_reply.ensures.touches.calls;
}

pub returns-in-Done-clause-answers : goal.returns-in-Done-clause-answers
returns-in-Done-clause-answers g c = let v = c.as_slice.ensures.value in
    send_done _ _ _ _ _ _ _ _ _ _ _ _ _ _ _ _ c.self.view_is c.requires.link c.self.invariant.is_request (sends_as _ _ _ _ _ _ _ v (c.in-Done.ensures.sends done_able))
    (c.in-Done.ensures.end_ ∙ ap length v) (λ e. c.in-Done.ensures.still refl e) c.receive_reply.ensures.touches.link c.receive_reply.ensures.touches.calls.idle c.receive_reply.ensures.answers

pub returns-in-Done-clause-hands_over : goal.returns-in-Done-clause-hands_over
returns-in-Done-clause-hands_over g c = c.receive_reply.ensures.hands_over

pub returns-in-Done-clause-allowed : goal.returns-in-Done-clause-allowed
returns-in-Done-clause-allowed g c = allowed_then c.send_rest.ensures.allowed c.receive_reply.ensures.allowed

pub returns-in-NotYet-clause-touches : goal.returns-in-NotYet-clause-touches
returns-in-NotYet-clause-touches g c = record {
  address = ap (λ x. x.address) c.self.view_is;
  limit = ap (λ x. x.limit) c.self.view_is;
  link = ap (λ x. x.link) c.self.view_is ∙ c.requires.link;
  calls = open_of _ _ _ c.send_rest.ensures.front.calls;
}

pub returns-in-NotYet-clause-answers : goal.returns-in-NotYet-clause-answers
returns-in-NotYet-clause-answers g c = let v = c.as_slice.ensures.value in let n = c.in-NotYet.ensures.end_ in
    send_pending _ _ _ _ _ _ _ _ _ _ _ _ _ c.self.view_is c.requires.link c.self.invariant.is_request (sends_as _ _ _ _ _ _ _ v (c.in-NotYet.ensures.sends not_yet_able)) c.requires.is_open
    (ap (λ x. x.standing) c.self.view_is ∙ c.requires.underway)
    (open_reads_more c.what_is_read_is_given.ensures _ _ (ap is_open (sym c.leads.ensures) ∙ c.self.invariant.goes_on (ap (λ x. x.standing) c.self.view_is ∙ c.requires.underway)))
    (less_as _ _ _ v n.0) n.1 n.2 n.3 n.4

pub returns-in-NotYet-clause-allowed : goal.returns-in-NotYet-clause-allowed
returns-in-NotYet-clause-allowed g c = c.send_rest.ensures.allowed

pub returns-in-Failed-clause-touches : goal.returns-in-Failed-clause-touches
returns-in-Failed-clause-touches g c = record {
  address = ap (λ x. x.address) c.break_off.ensures.over ∙ ap (λ x. x.address) c.self.view_is;
  limit = ap (λ x. x.limit) c.break_off.ensures.over ∙ ap (λ x. x.limit) c.self.view_is;
  link = ap (λ x. x.link) c.break_off.ensures.over ∙ (ap (λ x. x.link) c.self.view_is ∙ c.requires.link);
  calls = closed_then _ _ _ _ c.send_rest.ensures.front.calls c.break_off.ensures.closes;
}

pub returns-in-Failed-clause-answers : goal.returns-in-Failed-clause-answers
returns-in-Failed-clause-answers g c = let v = c.as_slice.ensures.value in
    as_result _ _ _ _ _ _ c.break_off.ensures.result
    (send_failed _ _ _ _ _ _ _ _ _ _ _ _ _ _ c.self.view_is c.requires.link c.self.invariant.is_request (front_as _ _ _ _ _ _ v c.in-Failed.ensures.front)
    (open_reads_more c.what_is_read_is_given.ensures _ _ (ap is_open (sym c.leads.ensures) ∙ c.self.invariant.goes_on (ap (λ x. x.standing) c.self.view_is ∙ c.requires.underway)))
    c.break_off.ensures.closes c.break_off.ensures.over (rose_then _ _ _ c.in-Failed.ensures.end_.0 c.break_off.ensures.closes.faults) c.in-Failed.ensures.end_.1)

pub returns-in-Failed-clause-hands_over : goal.returns-in-Failed-clause-hands_over
returns-in-Failed-clause-hands_over g c = handed_as _ _ _ c.break_off.ensures.result tt

pub returns-in-Failed-clause-allowed : goal.returns-in-Failed-clause-allowed
returns-in-Failed-clause-allowed g c = allowed_then c.send_rest.ensures.allowed c.break_off.ensures.allowed

pub returns-in-OutOfMemory-clause-touches : goal.returns-in-OutOfMemory-clause-touches
returns-in-OutOfMemory-clause-touches g c = record {
  address = ap (λ x. x.address) c.break_off-in-OutOfMemory.ensures.over ∙ ap (λ x. x.address) c.self.view_is;
  limit = ap (λ x. x.limit) c.break_off-in-OutOfMemory.ensures.over ∙ ap (λ x. x.limit) c.self.view_is;
  link = ap (λ x. x.link) c.break_off-in-OutOfMemory.ensures.over ∙ (ap (λ x. x.link) c.self.view_is ∙ c.requires.link);
  calls = closed_then _ _ _ _ c.send_rest.ensures.front.calls c.break_off-in-OutOfMemory.ensures.closes;
}

pub returns-in-OutOfMemory-clause-answers : goal.returns-in-OutOfMemory-clause-answers
returns-in-OutOfMemory-clause-answers g c = let v = c.as_slice.ensures.value in
    as_result _ _ _ _ _ _ c.break_off-in-OutOfMemory.ensures.result
    (send_broken _ _ _ _ _ _ _ _ _ _ _ _ _ _ c.self.view_is c.requires.link c.self.invariant.is_request (front_as _ _ _ _ _ _ v c.in-OutOfMemory.ensures.front) c.break_off-in-OutOfMemory.ensures.closes c.break_off-in-OutOfMemory.ensures.over)

pub returns-in-OutOfMemory-clause-hands_over : goal.returns-in-OutOfMemory-clause-hands_over
returns-in-OutOfMemory-clause-hands_over g c = handed_as _ _ _ c.break_off-in-OutOfMemory.ensures.result tt

pub returns-in-OutOfMemory-clause-allowed : goal.returns-in-OutOfMemory-clause-allowed
returns-in-OutOfMemory-clause-allowed g c = allowed_then c.send_rest.ensures.allowed c.break_off-in-OutOfMemory.ensures.allowed
