use Rattle.std.proofs.Common.{refl}
use Rattle.loop_wire.specs.Held.{Owing, closed}
use Rattle.loop_wire.specs.Standing.{owed_to}
use Rattle.loop_wire.specs.Looped.{held_of}
use Rattle.loop_wire.proofs.Calls.{closes_as}
use Rattle.loop_wire.proofs.Wires.{below_seen, slice_below, is_wire_put, held_put_by, counts_fine}
use Rattle.loop_wire.proofs.wire.LoopWireWire.close.Goals as goal

pub close-requires : goal.close-requires
close-requires g c = slice_below c.self.inside.links.items _ _ c.deref_mut.ensures.value (below_seen _ _ c.args.link c.self.view_is c.requires.is_open)

pub invariant_of-self : goal.invariant_of-self
invariant_of-self g c =
    (is_wire_put _ _ _ _ _ _ c.deref_mut.result.now _ _ c.self.invariant.0 c.deref_mut.ensures.value c.close.auto.links c.deref_mut.ensures.len (c.close.ensures.kept (g.B.Behind.server_of c.self.inside.servers)), c.self.invariant.1)

pub returns-clause-closes : goal.returns-clause-closes
returns-clause-closes g c =
    let owes : Owing = owed_to g.C.RespondsAt.response_at g.C.Server.Serves.serving g.B.Behind.server_of c.self.inside.servers in
    rw (← c.self.view_is) (closes_as g.B.Behind.everywhere owes c.args.link (held_of c.self.inside.links.items) _ c.self.inside.failures _ _ _ _ (below_seen _ _ c.args.link c.self.view_is c.requires.is_open)
    (held_put_by closed _ _ c.deref_mut.result.now _ _ c.deref_mut.ensures.value c.close.auto.links c.deref_mut.ensures.len c.close.ensures.held) (counts_fine _ _ c.self.inside.failures.calls refl))
