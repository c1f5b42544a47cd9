-- A dial that is due, goes where no server stands, wants memory, or gives a link.
use Rattle.std.proofs.Common.{◌≡◌, true, length, Some, refl, ap, sym, ◌∙◌, ◌≤◌, false, arith}
use Rattle.std.proofs.lemmas.Bool.{both_ways}
use Rattle.tpf_base.specs.Failures.{CallCounts}
use Rattle.loop_wire.specs.Held.{Owing}
use Rattle.loop_wire.specs.Standing.{owed_to}
use Rattle.loop_wire.specs.Looped.{Looped, held_of, steady_in}
use Rattle.loop_wire.proofs.Lists.{length_held}
use Rattle.loop_wire.proofs.Calls.{gives_as, every_alone, steady_everywhere}
use Rattle.loop_wire.proofs.Talks.{on_ok, on_err}
use Rattle.loop_wire.proofs.Wires.{served_along}
use Rattle.loop_wire.proofs.Faults.{due_dialled, due_spared, due_stranger, dial_was_due, spared, spared_memory}
use Rattle.list_laws.proofs.Tests.{same_least}
use Rattle.tpf_base.proofs.SendingLemmas.{allowed_same}
use Rattle.loop_wire.proofs.Causes.{failed_cause, memory_cause, fine_cause, none_given, only_failed, only_dialled}
use Rattle.loop_wire.proofs.wire.LoopWireDial.dial.Goals as goal

pub invariant_of-self : goal.invariant_of-self
invariant_of-self g c = (
  c.self.invariant.0,
  due_dialled c.self.inside.failures c.is_next_dial_due.new.self c.fail.new.self c.self.inside.moved _ _ c.self.inside.provoked (sym c.is_next_dial_due.ensures.due ∙ c.if-is_next_dial_due.true) refl c.is_next_dial_due.ensures.counts c.fail.ensures.counts c.self.invariant.1,
)

pub returns-then-is_next_dial_due-clause-err : goal.returns-then-is_next_dial_due-clause-err
returns-then-is_next_dial_due-clause-err g c =
    let owes : Owing = owed_to g.C.RespondsAt.response_at g.C.Server.Serves.serving g.B.Behind.server_of c.self.inside.servers in
    rw (← c.self.view_is) (none_given g.B.Behind.everywhere owes (held_of c.self.inside.links.items) _ c.self.inside.failures c.fail.new.self c.self.inside.provoked c.self.inside.provoked c.self.inside.waits c.self.inside.waits c.self.inside.woke refl)

pub returns-then-is_next_dial_due-clause-only : goal.returns-then-is_next_dial_due-clause-only
returns-then-is_next_dial_due-clause-only g c =
    let owes : Owing = owed_to g.C.RespondsAt.response_at g.C.Server.Serves.serving g.B.Behind.server_of c.self.inside.servers in
    rw (← c.self.view_is) (only_failed g.B.Behind.everywhere owes (held_of c.self.inside.links.items) _ c.self.inside.failures c.fail.new.self c.self.inside.provoked _ c.is_next_dial_due.new.self _ c.self.inside.waits c.self.inside.woke _ c.is_next_dial_due.ensures.counts c.fail.ensures.counts c.fail.ensures.later (same_least _ _ refl))

pub returns-then-is_next_dial_due-clause-cause : goal.returns-then-is_next_dial_due-clause-cause
returns-then-is_next_dial_due-clause-cause g c = rw (← c.self.view_is) (failed_cause _ c.is_next_dial_due.new.self.faults _ (ap (λ (n : CallCounts). n.faults) c.is_next_dial_due.ensures.counts) (ap (λ (n : CallCounts). n.faults) c.fail.ensures.counts) c.fail.ensures.later)

pub returns-then-is_next_dial_due-clause-steady : goal.returns-then-is_next_dial_due-clause-steady
returns-then-is_next_dial_due-clause-steady g c = λ steady. rw (← c.self.view_is) (record {
  unprovoked = λ few. refl;
  not_due = λ few e every free. absurd (dial_was_due c.self.inside.failures c.is_next_dial_due.new.self c.fail.new.self c.self.inside.moved _ e (sym c.is_next_dial_due.ensures.due ∙ c.if-is_next_dial_due.true) c.is_next_dial_due.ensures.counts c.fail.ensures.counts (every_alone g.B.Behind.everywhere c.self.inside.failures.failing e every) free);
})

pub returns-then-is_next_dial_due-clause-allowed : goal.returns-then-is_next_dial_due-clause-allowed
returns-then-is_next_dial_due-clause-allowed g c = rw (← c.self.view_is) (allowed_same _)

pub invariant_of-self-then-not-is_there : goal.invariant_of-self-then-not-is_there
invariant_of-self-then-not-is_there g c = (
  c.self.invariant.0,
  due_stranger c.self.inside.failures c.is_next_dial_due.new.self c.fail-then-not-is_there.new.self _ _ c.self.inside.provoked _ refl c.is_next_dial_due.ensures.counts c.fail-then-not-is_there.ensures.counts c.saturating_add-self-inside.ensures c.self.invariant.1,
)

pub returns-then-not-is_there-clause-err : goal.returns-then-not-is_there-clause-err
returns-then-not-is_there-clause-err g c =
    let owes : Owing = owed_to g.C.RespondsAt.response_at g.C.Server.Serves.serving g.B.Behind.server_of c.self.inside.servers in
    rw (← c.self.view_is) (none_given g.B.Behind.everywhere owes (held_of c.self.inside.links.items) _ c.self.inside.failures c.fail-then-not-is_there.new.self c.self.inside.provoked c.saturating_add-self-inside.result c.self.inside.waits c.self.inside.waits c.self.inside.woke refl)

pub returns-then-not-is_there-clause-only : goal.returns-then-not-is_there-clause-only
returns-then-not-is_there-clause-only g c =
    let owes : Owing = owed_to g.C.RespondsAt.response_at g.C.Server.Serves.serving g.B.Behind.server_of c.self.inside.servers in
    let rose : c.self.inside.provoked ≤ c.saturating_add-self-inside.result = omega (arith, c.saturating_add-self-inside.ensures, c.self.ranges) in
    rw (← c.self.view_is) (only_failed g.B.Behind.everywhere owes (held_of c.self.inside.links.items) _ c.self.inside.failures c.fail-then-not-is_there.new.self c.self.inside.provoked _ c.is_next_dial_due.new.self _ c.self.inside.waits c.self.inside.woke _ c.is_next_dial_due.ensures.counts c.fail-then-not-is_there.ensures.counts c.fail-then-not-is_there.ensures.later rose)

pub returns-then-not-is_there-clause-cause : goal.returns-then-not-is_there-clause-cause
returns-then-not-is_there-clause-cause g c = rw (← c.self.view_is) (failed_cause _ c.is_next_dial_due.new.self.faults _ (ap (λ (n : CallCounts). n.faults) c.is_next_dial_due.ensures.counts) (ap (λ (n : CallCounts). n.faults) c.fail-then-not-is_there.ensures.counts) c.fail-then-not-is_there.ensures.later)

pub returns-then-not-is_there-clause-steady : goal.returns-then-not-is_there-clause-steady
returns-then-not-is_there-clause-steady g c = λ steady.
    let all : g.B.Behind.everywhere ≡ true = steady_everywhere g.B.Behind.everywhere c.self.inside.failures.failing (ap (λ (v : Looped _). steady_in g.B.Behind.everywhere v.counts.failing) c.self.view_is ∙ steady) in
    absurd (both_ways _ (sym c.is_there.ensures ∙ c.if-not-is_there.true) (g.met.B.Behind.stands_everywhere all c.self.inside.servers c.args.host.now c.args.port))

pub returns-then-not-is_there-clause-allowed : goal.returns-then-not-is_there-clause-allowed
returns-then-not-is_there-clause-allowed g c = rw (← c.self.view_is) (allowed_same _)

pub invariant_of-self-then-is_err : goal.invariant_of-self-then-is_err
invariant_of-self-then-is_err g c = (
  served_along _ _ _ _ _ _ _ (on_err _ c.give.result c.give.ensures.err (sym c.if-is_err.ensures.value)) c.self.invariant.0,
  due_spared c.self.inside.failures c.is_next_dial_due.new.self _ _ _ refl c.is_next_dial_due.ensures.counts c.self.invariant.1,
)

pub returns-then-is_err-clause-err : goal.returns-then-is_err-clause-err
returns-then-is_err-clause-err g c =
    let owes : Owing = owed_to g.C.RespondsAt.response_at g.C.Server.Serves.serving g.B.Behind.server_of c.self.inside.servers in
    rw (← c.self.view_is) (none_given g.B.Behind.everywhere owes (held_of c.self.inside.links.items) _ c.self.inside.failures c.is_next_dial_due.new.self c.self.inside.provoked c.self.inside.provoked c.self.inside.waits c.self.inside.waits c.self.inside.woke (ap held_of (on_err _ c.give.result c.give.ensures.err (sym c.if-is_err.ensures.value))))

pub returns-then-is_err-clause-only : goal.returns-then-is_err-clause-only
returns-then-is_err-clause-only g c =
    let owes : Owing = owed_to g.C.RespondsAt.response_at g.C.Server.Serves.serving g.B.Behind.server_of c.self.inside.servers in
    rw (← c.self.view_is) (only_dialled g.B.Behind.everywhere owes (held_of c.self.inside.links.items) _ c.self.inside.failures c.is_next_dial_due.new.self c.self.inside.provoked _ _ c.self.inside.waits c.self.inside.woke _ c.is_next_dial_due.ensures.counts (same_least _ _ refl))

pub returns-then-is_err-clause-cause : goal.returns-then-is_err-clause-cause
returns-then-is_err-clause-cause g c = rw (← c.self.view_is) (memory_cause _ _ (ap (λ (n : CallCounts). n.faults) c.is_next_dial_due.ensures.counts))

pub returns-then-is_err-clause-steady : goal.returns-then-is_err-clause-steady
returns-then-is_err-clause-steady g c = λ steady. rw (← c.self.view_is) (record {
  unprovoked = λ few. refl;
  not_due = λ few e every free. spared_memory _ _ (ap (λ (n : CallCounts). n.faults) c.is_next_dial_due.ensures.counts);
})

pub returns-then-is_err-clause-allowed : goal.returns-then-is_err-clause-allowed
returns-then-is_err-clause-allowed g c = rw (← c.self.view_is) (allowed_same _)

pub invariant_of-self-2 : goal.invariant_of-self-2
invariant_of-self-2 g c = (
  (on_ok _ c.give.result c.give.ensures.kept (sym c.if-is_err.ensures.value)) (g.B.Behind.server_of c.self.inside.servers) (sym c.is_there.ensures ∙ c.if-not-is_there.false) c.self.invariant.0,
  due_spared c.self.inside.failures c.is_next_dial_due.new.self _ _ _ refl c.is_next_dial_due.ensures.counts c.self.invariant.1,
)

pub returns-clause-ok : goal.returns-clause-ok
returns-clause-ok g c =
    let owes : Owing = owed_to g.C.RespondsAt.response_at g.C.Server.Serves.serving g.B.Behind.server_of c.self.inside.servers in
    let first : c.len-number.result ≡ length (held_of c.self.inside.links.items) = c.len-number.ensures ∙ c.self.inside.links.ok.0 ∙ sym (length_held c.self.inside.links.items) in
    rw (← c.self.view_is) (gives_as g.B.Behind.everywhere owes (Some (c.args.host.now, c.args.port)) c.len-number.result (held_of c.self.inside.links.items) _ c.self.inside.failures c.is_next_dial_due.new.self _ _ _ first (on_ok _ c.give.result c.give.ensures.held (sym c.if-is_err.ensures.value)))

pub returns-clause-only : goal.returns-clause-only
returns-clause-only g c =
    let owes : Owing = owed_to g.C.RespondsAt.response_at g.C.Server.Serves.serving g.B.Behind.server_of c.self.inside.servers in
    rw (← c.self.view_is) (only_dialled g.B.Behind.everywhere owes (held_of c.self.inside.links.items) _ c.self.inside.failures c.is_next_dial_due.new.self c.self.inside.provoked _ _ c.self.inside.waits c.self.inside.woke false c.is_next_dial_due.ensures.counts (same_least _ _ refl))

pub returns-clause-cause : goal.returns-clause-cause
returns-clause-cause g c = rw (← c.self.view_is) (fine_cause _ _ _ (ap (λ (n : CallCounts). n.faults) c.is_next_dial_due.ensures.counts))

pub returns-clause-steady : goal.returns-clause-steady
returns-clause-steady g c = λ steady. rw (← c.self.view_is) (record {
  unprovoked = λ few. refl;
  not_due = λ few e every free. spared _ _ _ (ap (λ (n : CallCounts). n.faults) c.is_next_dial_due.ensures.counts);
})

pub returns-clause-allowed : goal.returns-clause-allowed
returns-clause-allowed g c = rw (← c.self.view_is) (allowed_same _)
