use Rattle.tpf_base.specs.Causes.{counted}
use Rattle.script_wire.proofs.Places.{open_below}
use Rattle.script_wire.proofs.Calls.{sends_nothing}
use Rattle.script_wire.proofs.wire.ScriptWireWire.send.Goals as goal

pub returns-then-n-eq0-clause-sends : goal.returns-then-n-eq0-clause-sends
returns-then-n-eq0-clause-sends c =
    sends_nothing _ (counted c.args.self.now.failures.calls) _ _ c.index_mut-then-n-eq0.result.now c.stall.new.self c.args.self.now.failures c.is_next_due.new.self _ _ _
    (open_below _ _ c.requires.is_open) c.index_mut-then-n-eq0.ensures.value c.stall.ensures.stalled c.is_next_due.ensures.counts c.stall.ensures.later
