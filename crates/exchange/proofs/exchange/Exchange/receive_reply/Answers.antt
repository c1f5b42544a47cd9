-- What was received comes behind what came before.
use Rattle.std.proofs.Common.{◌≡◌, true, false, ◌∙◌, ap, sym, take}
use Rattle.exchange.proofs.PollLemmas.{reply_pending, reply_broken, reply_failed, reply_read, as_result, rose_then, handed_all, handed_as}
use Rattle.exchange.specs.declared.exchange.Standing.TheVariants.{Over}
use Rattle.exchange.specs.declared.receiving.Received.TheVariants as received
use Rattle.tpf_base.specs.HttpReply.{is_open}
use Rattle.tpf_base.proofs.SendingLemmas.{allowed_then}
use Rattle.exchange.proofs.TouchLemmas.{over_goes_on, open_of, closed_then, concluded_then}
use Rattle.exchange.proofs.exchange.Exchange.receive_reply.Goals as goal

not_yet_able : received.NotYet ≡ received.OutOfMemory → ⊥
not_yet_able e = cc

failed_able : received.Failed ≡ received.OutOfMemory → ⊥
failed_able e = cc

read_able : received.Read ≡ received.OutOfMemory → ⊥
read_able e = cc

end_able : received.End ≡ received.OutOfMemory → ⊥
end_able e = cc

not_true : {Fact : Type 0} → false ≡ true → Fact
not_true e = absurd cc

not_false : {Fact : Type 0} → true ≡ false → Fact
not_false e = absurd cc

pub receive-received-requires-clause-is_open : goal.receive-received-requires-clause-is_open
receive-received-requires-clause-is_open g c = c.requires.is_open

pub receive-received-requires-clause-goes_on : goal.receive-received-requires-clause-goes_on
receive-received-requires-clause-goes_on g c = c.self.invariant.goes_on (ap (λ x. x.standing) c.self.view_is ∙ c.requires.underway)

pub invariant_of-self : goal.invariant_of-self
invariant_of-self g c = record { is_request = c.self.invariant.is_request; within = c.self.invariant.within; goes_on = λ e. over_goes_on e }

pub conclude-requires-clause-is_open : goal.conclude-requires-clause-is_open
conclude-requires-clause-is_open g c = c.in-Read.ensures.receives.1.calls.is_open ∙ c.requires.is_open

pub conclude-requires-clause-ended : goal.conclude-requires-clause-ended
conclude-requires-clause-ended g c = ap is_open (sym c.leads.ensures) ∙ c.in-Read.ensures.end_.0

pub invariant_of-self-in-End : goal.invariant_of-self-in-End
invariant_of-self-in-End g c = record { is_request = c.self.invariant.is_request; within = c.self.invariant.within; goes_on = λ e. over_goes_on e }

pub conclude-requires-in-End-clause-is_open : goal.conclude-requires-in-End-clause-is_open
conclude-requires-in-End-clause-is_open g c = c.in-End.ensures.receives.1.calls.is_open ∙ c.requires.is_open

pub conclude-requires-in-End-clause-ended : goal.conclude-requires-in-End-clause-ended
conclude-requires-in-End-clause-ended g c = ap is_open (sym c.leads.ensures) ∙ c.in-End.ensures.end_.0

pub invariant_of-self-in-NotYet : goal.invariant_of-self-in-NotYet
invariant_of-self-in-NotYet g c = record { is_request = c.self.invariant.is_request; within = c.self.invariant.within; goes_on = λ e. c.in-NotYet.ensures.end_.0 }

pub invariant_of-self-in-Failed : goal.invariant_of-self-in-Failed
invariant_of-self-in-Failed g c = record { is_request = c.self.invariant.is_request; within = c.self.invariant.within; goes_on = λ e. c.in-Failed.ensures.end_.0 }

pub break_off-requires : goal.break_off-requires
break_off-requires g c = record { is_open = c.in-Failed.ensures.receives.1.calls.is_open ∙ c.requires.is_open }

pub invariant_of-self-in-OutOfMemory : goal.invariant_of-self-in-OutOfMemory
invariant_of-self-in-OutOfMemory g c = record { is_request = c.self.invariant.is_request; within = c.self.invariant.within; goes_on = λ e. c.in-OutOfMemory.ensures.end_ }

pub break_off-requires-in-OutOfMemory : goal.break_off-requires-in-OutOfMemory
break_off-requires-in-OutOfMemory g c = record { is_open = c.in-OutOfMemory.ensures.receives.1.calls.is_open ∙ c.requires.is_open }

pub returns-in-Read-clause-touches : goal.returns-in-Read-clause-touches
returns-in-Read-clause-touches g c = record {
  address = c.conclude.ensures.address ∙ ap (λ x. x.address) c.self.view_is;
  limit = c.conclude.ensures.limit ∙ (c.in-Read.ensures.receives.1.limit ∙ ap (λ x. x.limit) c.self.view_is);
  link = c.conclude.ensures.link ∙ (ap (λ x. x.link) c.self.view_is ∙ c.requires.link);
  calls = concluded_then _ _ (record { address = c.self.inside.address; limit = c.receive-received.new.incoming.limit; link = c.self.inside.link; sent = take c.self.inside.sent c.self.inside.request.items; received = c.receive-received.new.incoming.received; standing = Over }) c.conclude.new.self _ _ _ _ c.in-Read.ensures.receives.1.calls c.conclude.ensures.concludes;
}

pub returns-in-Read-clause-answers : goal.returns-in-Read-clause-answers
returns-in-Read-clause-answers g c = let h = c.in-Read.ensures.receives in let n = c.in-Read.ensures.end_ in
    reply_read _ _ _ _ _ _ _ _ h.0 _ _ Over _ _ _ _ c.self.view_is c.requires.link c.requires.sent h.1 (h.2 read_able) c.requires.is_open n.1 not_true not_true not_true (λ e. n.2)
    c.conclude.ensures.concludes c.conclude.ensures.address c.conclude.ensures.limit c.conclude.ensures.link

pub returns-in-Read-clause-hands_over : goal.returns-in-Read-clause-hands_over
returns-in-Read-clause-hands_over g c = handed_all _ _ c.conclude.ensures.received

pub returns-in-Read-clause-allowed : goal.returns-in-Read-clause-allowed
returns-in-Read-clause-allowed g c = allowed_then c.receive-received.ensures.allowed c.conclude.ensures.allowed

pub returns-in-End-clause-touches : goal.returns-in-End-clause-touches
returns-in-End-clause-touches g c = record {
  address = c.conclude-in-End.ensures.address ∙ ap (λ x. x.address) c.self.view_is;
  limit = c.conclude-in-End.ensures.limit ∙ (c.in-End.ensures.receives.1.limit ∙ ap (λ x. x.limit) c.self.view_is);
  link = c.conclude-in-End.ensures.link ∙ (ap (λ x. x.link) c.self.view_is ∙ c.requires.link);
  calls = concluded_then _ _ (record { address = c.self.inside.address; limit = c.receive-received.new.incoming.limit; link = c.self.inside.link; sent = take c.self.inside.sent c.self.inside.request.items; received = c.receive-received.new.incoming.received; standing = Over }) c.conclude-in-End.new.self _ _ _ _ c.in-End.ensures.receives.1.calls c.conclude-in-End.ensures.concludes;
}

pub returns-in-End-clause-answers : goal.returns-in-End-clause-answers
returns-in-End-clause-answers g c = let h = c.in-End.ensures.receives in let n = c.in-End.ensures.end_ in
    reply_read _ _ _ _ _ _ _ _ h.0 _ _ Over _ _ _ _ c.self.view_is c.requires.link c.requires.sent h.1 (h.2 end_able) c.requires.is_open n.1 (λ e. n.2) (λ e. n.3) (λ e. n.4) not_false
    c.conclude-in-End.ensures.concludes c.conclude-in-End.ensures.address c.conclude-in-End.ensures.limit c.conclude-in-End.ensures.link

pub returns-in-End-clause-hands_over : goal.returns-in-End-clause-hands_over
returns-in-End-clause-hands_over g c = handed_all _ _ c.conclude-in-End.ensures.received

pub returns-in-End-clause-allowed : goal.returns-in-End-clause-allowed
returns-in-End-clause-allowed g c = allowed_then c.receive-received.ensures.allowed c.conclude-in-End.ensures.allowed

pub returns-in-NotYet-clause-touches : goal.returns-in-NotYet-clause-touches
returns-in-NotYet-clause-touches g c = record {
  address = ap (λ x. x.address) c.self.view_is;
  limit = c.in-NotYet.ensures.receives.1.limit ∙ ap (λ x. x.limit) c.self.view_is;
  link = ap (λ x. x.link) c.self.view_is ∙ c.requires.link;
  calls = open_of _ _ _ c.in-NotYet.ensures.receives.1.calls;
}

pub returns-in-NotYet-clause-answers : goal.returns-in-NotYet-clause-answers
returns-in-NotYet-clause-answers g c = let h = c.in-NotYet.ensures.receives in let n = c.in-NotYet.ensures.end_ in
    reply_pending _ _ _ _ _ _ _ h.0 _ _ _ _ c.self.view_is c.requires.link c.requires.sent h.1 (h.2 not_yet_able) c.requires.is_open n.0 c.leads.ensures c.what_is_read_is_given.ensures
    (ap (λ x. x.standing) c.self.view_is ∙ c.requires.underway) n.1 n.2 n.3 n.4

pub returns-in-NotYet-clause-allowed : goal.returns-in-NotYet-clause-allowed
returns-in-NotYet-clause-allowed g c = c.receive-received.ensures.allowed

pub returns-in-Failed-clause-touches : goal.returns-in-Failed-clause-touches
returns-in-Failed-clause-touches g c = record {
  address = ap (λ x. x.address) c.break_off.ensures.over ∙ ap (λ x. x.address) c.self.view_is;
  limit = ap (λ x. x.limit) c.break_off.ensures.over ∙ (c.in-Failed.ensures.receives.1.limit ∙ ap (λ x. x.limit) c.self.view_is);
  link = ap (λ x. x.link) c.break_off.ensures.over ∙ (ap (λ x. x.link) c.self.view_is ∙ c.requires.link);
  calls = closed_then _ _ _ _ c.in-Failed.ensures.receives.1.calls c.break_off.ensures.closes;
}

pub returns-in-Failed-clause-answers : goal.returns-in-Failed-clause-answers
returns-in-Failed-clause-answers g c = let h = c.in-Failed.ensures.receives in
    as_result _ _ _ _ _ _ c.break_off.ensures.result
    (reply_failed _ _ _ _ _ _ _ _ h.0 _ _ _ _ c.self.view_is c.requires.link c.requires.sent h.1 (h.2 failed_able) c.in-Failed.ensures.end_.0 c.leads.ensures c.what_is_read_is_given.ensures
    c.break_off.ensures.closes c.break_off.ensures.over (rose_then _ _ _ c.in-Failed.ensures.end_.1 c.break_off.ensures.closes.faults) c.in-Failed.ensures.end_.2)

pub returns-in-Failed-clause-hands_over : goal.returns-in-Failed-clause-hands_over
returns-in-Failed-clause-hands_over g c = handed_as _ _ _ c.break_off.ensures.result tt

pub returns-in-Failed-clause-allowed : goal.returns-in-Failed-clause-allowed
returns-in-Failed-clause-allowed g c = allowed_then c.receive-received.ensures.allowed c.break_off.ensures.allowed

pub returns-in-OutOfMemory-clause-touches : goal.returns-in-OutOfMemory-clause-touches
returns-in-OutOfMemory-clause-touches g c = record {
  address = ap (λ x. x.address) c.break_off-in-OutOfMemory.ensures.over ∙ ap (λ x. x.address) c.self.view_is;
  limit = ap (λ x. x.limit) c.break_off-in-OutOfMemory.ensures.over ∙ (c.in-OutOfMemory.ensures.receives.1.limit ∙ ap (λ x. x.limit) c.self.view_is);
  link = ap (λ x. x.link) c.break_off-in-OutOfMemory.ensures.over ∙ (ap (λ x. x.link) c.self.view_is ∙ c.requires.link);
  calls = closed_then _ _ _ _ c.in-OutOfMemory.ensures.receives.1.calls c.break_off-in-OutOfMemory.ensures.closes;
}

pub returns-in-OutOfMemory-clause-answers : goal.returns-in-OutOfMemory-clause-answers
returns-in-OutOfMemory-clause-answers g c = let h = c.in-OutOfMemory.ensures.receives in
    as_result _ _ _ _ _ _ c.break_off-in-OutOfMemory.ensures.result
    (reply_broken _ _ _ _ _ _ _ _ h.0 _ _ _ _ c.self.view_is c.requires.link c.requires.sent h.1 c.break_off-in-OutOfMemory.ensures.closes c.break_off-in-OutOfMemory.ensures.over)

pub returns-in-OutOfMemory-clause-hands_over : goal.returns-in-OutOfMemory-clause-hands_over
returns-in-OutOfMemory-clause-hands_over g c = handed_as _ _ _ c.break_off-in-OutOfMemory.ensures.result tt

pub returns-in-OutOfMemory-clause-allowed : goal.returns-in-OutOfMemory-clause-allowed
returns-in-OutOfMemory-clause-allowed g c = allowed_then c.receive-received.ensures.allowed c.break_off-in-OutOfMemory.ensures.allowed
