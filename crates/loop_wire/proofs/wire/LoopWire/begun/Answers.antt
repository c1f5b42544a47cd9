use Rattle.loop_wire.proofs.Faults.{none_yet}
use Rattle.loop_wire.proofs.wire.LoopWire.begun.Goals as goal

pub invariant_of-result : goal.invariant_of-result
invariant_of-result g c = (rw c.new.ensures.items tt, none_yet _ c.args.failing c.new-2.ensures)
