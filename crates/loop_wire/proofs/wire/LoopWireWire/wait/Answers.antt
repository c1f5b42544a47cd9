-- A wait that is due, finds no ripe link, or wakes one.
use Rattle.std.proofs.Common.{◌<◌, true, length, refl, ap, sym, ◌∙◌, length-set, arith, ◌≤◌}
use Rattle.tpf_base.specs.Failures.{CallCounts}
use Rattle.loop_wire.specs.Held.{Owing, woken_now}
use Rattle.loop_wire.specs.Standing.{owed_to}
use Rattle.loop_wire.specs.Looped.{held_of, Looped, steady_in}
use Rattle.loop_wire.specs.Waits.{WaitCounts}
use Rattle.loop_wire.proofs.Lists.{is_held_at}
use Rattle.loop_wire.proofs.Wires.{is_wire_put, held_below, held_put_by, counts_fine}
use Rattle.loop_wire.proofs.Waits.{wakes_as, waits_found, waits_none, none_along, ripe_along}
use Rattle.loop_wire.proofs.Faults.{due_same, due_provoked, due_unsteady}
use Rattle.loop_wire.proofs.Calls.{never_due}
use Rattle.list_laws.proofs.Tests.{same_least}
use Rattle.tpf_base.proofs.SendingLemmas.{allowed_same}
use Rattle.loop_wire.proofs.Causes.{least_behind, counts_on, not_steady, failed_cause, fine_cause, none_given, only_waits}
use Rattle.loop_wire.proofs.wire.LoopWireWire.wait.Goals as goal

pub invariant_of-self : goal.invariant_of-self
invariant_of-self g c = (c.self.invariant.0, due_unsteady c.self.inside.failures c.is_next_due.new.self c.fail.new.self _ _ c.is_next_due.ensures.counts c.fail.ensures.counts (never_due c.self.inside.failures.failing _ _ (sym c.is_next_due.ensures.due ∙ c.if-is_next_due.true)))

pub returns-then-is_next_due-clause-err : goal.returns-then-is_next_due-clause-err
returns-then-is_next_due-clause-err g c =
    let owes : Owing = owed_to g.C.RespondsAt.response_at g.C.Server.Serves.serving g.B.Behind.server_of c.self.inside.servers in
    rw (← c.self.view_is) (none_given g.B.Behind.everywhere owes (held_of c.self.inside.links.items) _ c.self.inside.failures c.fail.new.self c.self.inside.provoked c.self.inside.provoked c.self.inside.waits c.fail-then-is_next_due.new.self c.self.inside.woke refl)

pub returns-then-is_next_due-clause-only : goal.returns-then-is_next_due-clause-only
returns-then-is_next_due-clause-only g c =
    let owes : Owing = owed_to g.C.RespondsAt.response_at g.C.Server.Serves.serving g.B.Behind.server_of c.self.inside.servers in
    rw (← c.self.view_is) (only_waits g.B.Behind.everywhere owes (held_of c.self.inside.links.items) _ c.self.inside.failures c.fail.new.self c.self.inside.provoked _ c.self.inside.waits c.fail-then-is_next_due.new.self c.self.inside.woke _
    (ap (λ (w : WaitCounts). w.calls) c.fail-then-is_next_due.ensures.fault ∙ ap (λ (w : WaitCounts). w.calls) c.count.ensures) refl (counts_on c.self.inside.failures c.is_next_due.new.self c.fail.new.self _ c.is_next_due.ensures.counts c.fail.ensures.counts c.fail.ensures.later)
    (same_least _ _ refl) (least_behind _ _ _ (ap (λ (w : WaitCounts). w.faults) c.count.ensures) c.fail-then-is_next_due.ensures.later))

pub returns-then-is_next_due-clause-cause : goal.returns-then-is_next_due-clause-cause
returns-then-is_next_due-clause-cause g c = rw (← c.self.view_is) (failed_cause _ c.is_next_due.new.self.faults _ (ap (λ (n : CallCounts). n.faults) c.is_next_due.ensures.counts) (ap (λ (n : CallCounts). n.faults) c.fail.ensures.counts) c.fail.ensures.later)

pub returns-then-is_next_due-clause-door : goal.returns-then-is_next_due-clause-door
returns-then-is_next_due-clause-door g c = rw (← c.self.view_is) (failed_cause _ c.count.new.self.faults _ (ap (λ (w : WaitCounts). w.faults) c.count.ensures) (ap (λ (w : WaitCounts). w.faults) c.fail-then-is_next_due.ensures.fault) c.fail-then-is_next_due.ensures.later)

pub returns-then-is_next_due-clause-steady : goal.returns-then-is_next_due-clause-steady
returns-then-is_next_due-clause-steady g c = λ steady. absurd (not_steady g.B.Behind.everywhere c.self.inside.failures.failing (never_due c.self.inside.failures.failing _ _ (sym c.is_next_due.ensures.due ∙ c.if-is_next_due.true)) (ap (λ (v : Looped _). steady_in g.B.Behind.everywhere v.counts.failing) c.self.view_is ∙ steady))

pub returns-then-is_next_due-clause-allowed : goal.returns-then-is_next_due-clause-allowed
returns-then-is_next_due-clause-allowed g c = rw (← c.self.view_is) (allowed_same _)

pub next_ripe-requires : goal.next_ripe-requires
next_ripe-requires g c = omega (arith, c.place-start.ensures.within, c.len.ensures, c.self.inside.links.ok.0, ap length c.deref.ensures.value)

pub invariant_of-self-in_default : goal.invariant_of-self-in_default
invariant_of-self-in_default g c = (
  c.self.invariant.0,
  due_provoked c.self.inside.failures c.is_next_due.new.self c.fail-in_default.new.self _ c.self.inside.provoked _ c.is_next_due.ensures.counts c.fail-in_default.ensures.counts c.saturating_add-self-inside.ensures c.self.invariant.1,
)

pub returns-in_default-clause-err : goal.returns-in_default-clause-err
returns-in_default-clause-err g c =
    let owes : Owing = owed_to g.C.RespondsAt.response_at g.C.Server.Serves.serving g.B.Behind.server_of c.self.inside.servers in
    rw (← c.self.view_is) (none_given g.B.Behind.everywhere owes (held_of c.self.inside.links.items) _ c.self.inside.failures c.fail-in_default.new.self c.self.inside.provoked c.saturating_add-self-inside.result c.self.inside.waits c.fail-in_default-2.new.self c.self.inside.woke refl)

pub returns-in_default-clause-only : goal.returns-in_default-clause-only
returns-in_default-clause-only g c =
    let owes : Owing = owed_to g.C.RespondsAt.response_at g.C.Server.Serves.serving g.B.Behind.server_of c.self.inside.servers in
    let rose : c.self.inside.provoked ≤ c.saturating_add-self-inside.result = omega (arith, c.saturating_add-self-inside.ensures, c.self.ranges) in
    rw (← c.self.view_is) (only_waits g.B.Behind.everywhere owes (held_of c.self.inside.links.items) _ c.self.inside.failures c.fail-in_default.new.self c.self.inside.provoked _ c.self.inside.waits c.fail-in_default-2.new.self c.self.inside.woke _
    (ap (λ (w : WaitCounts). w.calls) c.fail-in_default-2.ensures.fault ∙ ap (λ (w : WaitCounts). w.calls) c.count.ensures) refl (counts_on c.self.inside.failures c.is_next_due.new.self c.fail-in_default.new.self _ c.is_next_due.ensures.counts c.fail-in_default.ensures.counts c.fail-in_default.ensures.later)
    rose (least_behind _ _ _ (ap (λ (w : WaitCounts). w.faults) c.count.ensures) c.fail-in_default-2.ensures.later))

pub returns-in_default-clause-cause : goal.returns-in_default-clause-cause
returns-in_default-clause-cause g c = rw (← c.self.view_is) (failed_cause _ c.is_next_due.new.self.faults _ (ap (λ (n : CallCounts). n.faults) c.is_next_due.ensures.counts) (ap (λ (n : CallCounts). n.faults) c.fail-in_default.ensures.counts) c.fail-in_default.ensures.later)

pub returns-in_default-clause-door : goal.returns-in_default-clause-door
returns-in_default-clause-door g c = rw (← c.self.view_is) (failed_cause _ c.count.new.self.faults _ (ap (λ (w : WaitCounts). w.faults) c.count.ensures) (ap (λ (w : WaitCounts). w.faults) c.fail-in_default-2.ensures.fault) c.fail-in_default-2.ensures.later)

pub returns-in_default-clause-steady : goal.returns-in_default-clause-steady
returns-in_default-clause-steady g c = λ steady.
    let owes : Owing = owed_to g.C.RespondsAt.response_at g.C.Server.Serves.serving g.B.Behind.server_of c.self.inside.servers in
    rw (← c.self.view_is) (waits_none g.B.Behind.everywhere owes (held_of c.self.inside.links.items) c.self.inside.failures c.self.inside.provoked c.self.inside.waits c.self.inside.woke _
    (none_along c.self.inside.links.items c.deref.result.now c.self.inside.woke c.deref.ensures.value c.in_default.ensures.none)
    (λ k below. is_held_at _ _ _ _ _ _ _ c.self.invariant.0 below))

pub returns-in_default-clause-allowed : goal.returns-in_default-clause-allowed
returns-in_default-clause-allowed g c = rw (← c.self.view_is) (allowed_same _)

pub wake-requires-clause-below : goal.wake-requires-clause-below
wake-requires-clause-below g c = omega (arith, c.in-Some.ensures.found.0, ap length c.deref.ensures.value, ap length c.deref_mut.ensures.value)

pub wake-requires-clause-ripe : goal.wake-requires-clause-ripe
wake-requires-clause-ripe g c = ripe_along c.deref_mut.result.now c.deref.result.now c.in-Some.k (c.deref.ensures.value ∙ sym c.deref_mut.ensures.value) c.in-Some.ensures.found.1

pub invariant_of-self-2 : goal.invariant_of-self-2
invariant_of-self-2 g c = (
  is_wire_put _ _ _ _ _ _ c.deref_mut.result.now _ _ c.self.invariant.0 c.deref_mut.ensures.value c.wake.auto.links c.deref_mut.ensures.len (c.wake.ensures.kept (g.B.Behind.server_of c.self.inside.servers)),
  due_same c.self.inside.failures c.is_next_due.new.self _ _ c.is_next_due.ensures.counts c.self.invariant.1,
)

pub returns-clause-ok : goal.returns-clause-ok
returns-clause-ok g c =
    let owes : Owing = owed_to g.C.RespondsAt.response_at g.C.Server.Serves.serving g.B.Behind.server_of c.self.inside.servers in
    let below : c.in-Some.k < length (held_of c.self.inside.links.items) = held_below c.self.inside.links.items _ _ c.deref.ensures.value c.in-Some.ensures.found.0 in
    rw (← c.self.view_is) (wakes_as g.B.Behind.everywhere owes c.in-Some.k (held_of c.self.inside.links.items) _ c.self.inside.failures c.is_next_due.new.self c.self.inside.provoked c.self.inside.waits c.count.new.self c.self.inside.woke below
    (ripe_along c.self.inside.links.items c.deref.result.now c.in-Some.k c.deref.ensures.value c.in-Some.ensures.found.1)
    (is_held_at _ _ _ _ _ _ _ c.self.invariant.0 below)
    (held_put_by woken_now _ _ c.deref_mut.result.now _ _ c.deref_mut.ensures.value c.wake.auto.links c.deref_mut.ensures.len c.wake.ensures.held) c.in-Some.ensures.first)

pub returns-clause-only : goal.returns-clause-only
returns-clause-only g c =
    let owes : Owing = owed_to g.C.RespondsAt.response_at g.C.Server.Serves.serving g.B.Behind.server_of c.self.inside.servers in
    rw (← c.self.view_is) (only_waits g.B.Behind.everywhere owes (held_of c.self.inside.links.items) _ c.self.inside.failures c.is_next_due.new.self c.self.inside.provoked _ c.self.inside.waits c.count.new.self c.self.inside.woke true (ap (λ (w : WaitCounts). w.calls) c.count.ensures)
    (ap length (held_put_by woken_now _ _ c.deref_mut.result.now _ _ c.deref_mut.ensures.value c.wake.auto.links c.deref_mut.ensures.len c.wake.ensures.held) ∙ length-set (held_of c.self.inside.links.items) c.in-Some.k _)
    (counts_fine c.self.inside.failures c.is_next_due.new.self _ c.is_next_due.ensures.counts).on (same_least _ _ refl) (same_least _ _ (ap (λ (w : WaitCounts). w.faults) c.count.ensures)))

pub returns-clause-cause : goal.returns-clause-cause
returns-clause-cause g c = rw (← c.self.view_is) (fine_cause _ _ _ (ap (λ (n : CallCounts). n.faults) c.is_next_due.ensures.counts))

pub returns-clause-door : goal.returns-clause-door
returns-clause-door g c = rw (← c.self.view_is) (fine_cause _ _ _ (ap (λ (w : WaitCounts). w.faults) c.count.ensures))

pub returns-clause-steady : goal.returns-clause-steady
returns-clause-steady g c = λ steady.
    let owes : Owing = owed_to g.C.RespondsAt.response_at g.C.Server.Serves.serving g.B.Behind.server_of c.self.inside.servers in
    let below : c.in-Some.k < length (held_of c.self.inside.links.items) = held_below c.self.inside.links.items _ _ c.deref.ensures.value c.in-Some.ensures.found.0 in
    rw (← c.self.view_is) (waits_found g.B.Behind.everywhere owes c.in-Some.k (held_of c.self.inside.links.items) _ c.self.inside.failures c.is_next_due.new.self c.self.inside.provoked c.self.inside.waits c.count.new.self c.self.inside.woke true
    (ripe_along c.self.inside.links.items c.deref.result.now c.in-Some.k c.deref.ensures.value c.in-Some.ensures.found.1)
    (is_held_at _ _ _ _ _ _ _ c.self.invariant.0 below) (counts_fine c.self.inside.failures c.is_next_due.new.self _ c.is_next_due.ensures.counts).faults)

pub returns-clause-allowed : goal.returns-clause-allowed
returns-clause-allowed g c = rw (← c.self.view_is) (allowed_same _)
