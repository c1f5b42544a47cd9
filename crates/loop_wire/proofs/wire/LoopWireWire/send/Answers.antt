-- A send that is due, and one that its link hears.
use Rattle.std.proofs.Common.{◌≡◌, ◌<◌, ◌≤◌, true, false, length, take, get_or, refl, ap, sym, ◌∙◌, arith}
use Rattle.std.proofs.lemmas.List.{length-take-le}
use Rattle.tpf_base.specs.Failures.{CallCounts}
use Rattle.loop_wire.specs.Held.{Held, Owing, no_link, settled}
use Rattle.loop_wire.specs.Standing.{owed_to}
use Rattle.loop_wire.specs.Looped.{held_of}
use Rattle.loop_wire.proofs.Lists.{held_at, is_held_at, owed_lasts}
use Rattle.loop_wire.proofs.Calls.{never_due, sends_due, sends_as}
use Rattle.loop_wire.proofs.Wires.{open_seen, below_seen, slice_open, slice_below, is_wire_put, held_put_by, held_put, hears_along, served_along, counts_failed, counts_fine, some_room, few_within, some_within, asleep_as}
use Rattle.loop_wire.proofs.Faults.{due_same, due_unsteady}
use Rattle.tpf_base.proofs.SendingLemmas.{allowed_same}
use Rattle.loop_wire.proofs.wire.LoopWireWire.send.Goals as goal

pub settle-requires : goal.settle-requires
settle-requires g c = slice_below c.self.inside.links.items _ _ c.deref_mut.ensures.value (below_seen _ _ c.args.link c.self.view_is c.requires.is_open)

pub invariant_of-self : goal.invariant_of-self
invariant_of-self g c = (
  is_wire_put _ _ _ _ _ _ c.deref_mut.result.now _ _ c.self.invariant.0 c.deref_mut.ensures.value c.settle.auto.links c.deref_mut.ensures.len (c.settle.ensures.kept (g.B.Behind.server_of c.self.inside.servers)),
  due_unsteady c.self.inside.failures c.is_next_due.new.self c.fail.new.self _ _ c.is_next_due.ensures.counts c.fail.ensures.counts (never_due c.self.inside.failures.failing _ _ (sym c.is_next_due.ensures.due ∙ c.if-is_next_due.true)),
)

pub returns-then-is_next_due-clause-sends : goal.returns-then-is_next_due-clause-sends
returns-then-is_next_due-clause-sends g c =
    let owes : Owing = owed_to g.C.RespondsAt.response_at g.C.Server.Serves.serving g.B.Behind.server_of c.self.inside.servers in
    rw (← c.self.view_is) (sends_due g.B.Behind.everywhere owes c.args.link (held_of c.self.inside.links.items) _ c.self.inside.failures c.fail.new.self _ _ _ _ (below_seen _ _ c.args.link c.self.view_is c.requires.is_open)
    (held_put_by settled _ _ c.deref_mut.result.now _ _ c.deref_mut.ensures.value c.settle.auto.links c.deref_mut.ensures.len c.settle.ensures.held)
    (counts_failed c.self.inside.failures c.is_next_due.new.self c.fail.new.self _ c.is_next_due.ensures.counts c.fail.ensures.counts c.fail.ensures.later
    (never_due c.self.inside.failures.failing _ _ (sym c.is_next_due.ensures.due ∙ c.if-is_next_due.true))))

pub returns-then-is_next_due-clause-allowed : goal.returns-then-is_next_due-clause-allowed
returns-then-is_next_due-clause-allowed g c = rw (← c.self.view_is) (allowed_same _)

pub index-requires : goal.index-requires
index-requires g c = omega (arith, slice_below c.self.inside.links.items _ _ refl (below_seen _ _ c.args.link c.self.view_is c.requires.is_open), c.self.inside.links.ok.0)

pub slice_bounds-send-end : goal.slice_bounds-send-end
slice_bounds-send-end g c = sym (length-take-le _ _ (few_within _ _ _ _ c.room-n.ensures.within c.min-most.ensures))

pub send-answer-requires-clause-below : goal.send-answer-requires-clause-below
send-answer-requires-clause-below g c = slice_below c.self.inside.links.items _ _ c.deref_mut-2.ensures.value (below_seen _ _ c.args.link c.self.view_is c.requires.is_open)

pub send-answer-requires-clause-is_open : goal.send-answer-requires-clause-is_open
send-answer-requires-clause-is_open g c = slice_open c.self.inside.links.items _ _ c.deref_mut-2.ensures.value (open_seen _ _ c.args.link c.self.view_is c.requires.is_open)

pub send-answer-requires-clause-kept : goal.send-answer-requires-clause-kept
send-answer-requires-clause-kept g c = served_along _ _ _ _ _ _ _ c.deref_mut-2.ensures.value c.self.invariant.0

pub invariant_of-self-2 : goal.invariant_of-self-2
invariant_of-self-2 g c = (
  is_wire_put _ _ _ _ _ _ c.deref_mut-2.result.now _ _ c.self.invariant.0 c.deref_mut-2.ensures.value c.send-answer.auto.links c.deref_mut-2.ensures.len (λ before. c.send-answer.ensures.kept),
  due_same c.self.inside.failures c.is_next_due.new.self _ _ c.is_next_due.ensures.counts c.self.invariant.1,
)

pub returns-clause-sends : goal.returns-clause-sends
returns-clause-sends g c =
    let owes : Owing = owed_to g.C.RespondsAt.response_at g.C.Server.Serves.serving g.B.Behind.server_of c.self.inside.servers in
    let below : c.args.link < length (held_of c.self.inside.links.items) = below_seen _ _ c.args.link c.self.view_is c.requires.is_open in
    let within : c.args.link < length c.self.inside.links.items = slice_below c.self.inside.links.items _ _ refl below in
    let few : c.room-n.result ≤ length c.args.piece.now = few_within _ _ _ _ c.room-n.ensures.within c.min-most.ensures in
    let there : 0 < c.min-most.result = some_within _ _ _ c.cut.ensures.least c.requires.some c.min-most.ensures in
    let some : 0 < c.room-n.result = some_room c.self.inside.failures.failing c.is_next_due.new.self.failing _ _ _ (ap (λ (n : CallCounts). n.failing) c.is_next_due.ensures.counts) c.room-n.ensures.value (c.is_next_due.ensures.some c.if-is_next_due.false _ there) in
    let asleep : c.stalls-stalling.result ≡ true → (get_or (held_of c.self.inside.links.items) c.args.link no_link).woken ≡ false = λ up. ap (λ (h : Held). h.woken) (held_at c.self.inside.links.items c.args.link c.index.result.now within c.index.ensures) ∙ sym c.is_woken.ensures ∙ asleep_as _ _ _ c.stalls-stalling.ensures.value up in
    let longer = owed_lasts g.C.Server.Serves.serving g.C.RespondsAt.response_at g.C.RespondsAt.lasts (g.B.Behind.server_of c.self.inside.servers (get_or (held_of c.self.inside.links.items) c.args.link no_link).peer) (get_or (held_of c.self.inside.links.items) c.args.link no_link).sent (take c.room-n.result c.args.piece.now) in
    rw (← c.self.view_is) (sends_as g.B.Behind.everywhere owes c.args.link (held_of c.self.inside.links.items) _ c.self.inside.failures c.is_next_due.new.self _ _ _ c.room-n.result c.args.piece.now longer.0 c.stalls-stalling.result c.send-answer.result (get_or (held_of c.send-answer.new.links) c.args.link no_link) _ below
    (held_put _ _ _ c.deref_mut-2.result.now _ _ c.deref_mut-2.ensures.value c.send-answer.auto.links c.deref_mut-2.ensures.len c.send-answer.ensures.held)
    (counts_fine c.self.inside.failures c.is_next_due.new.self _ c.is_next_due.ensures.counts) c.is_woke_after-self-inside.ensures
    (is_held_at _ _ _ _ _ _ _ c.self.invariant.0 below) (hears_along _ _ c.deref_mut-2.result.now _ _ (take c.room-n.result c.args.piece.now) _ _ c.deref_mut-2.ensures.value refl c.send-answer.ensures.hears)
    longer.1 some few asleep)

pub returns-clause-allowed : goal.returns-clause-allowed
returns-clause-allowed g c = rw (← c.self.view_is) (allowed_same _)
