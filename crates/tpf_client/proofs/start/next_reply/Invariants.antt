-- So far each step waited.
use Rattle.tpf_base.specs.Links.{SameAllowed}
use Rattle.tpf_client.specs.Asking.{WaitsSo}
use Rattle.tpf_client.proofs.start.next_reply.Given as goal

abbrev pub invariant-loop : goal.invariant-loop
invariant-loop g l = record {
  so : WaitsSo (g.W.Wire.allows l.fn.wire) l.fn.asks l.asks (g.W.Wire.state l.fn.wire) (g.W.Wire.state l.wire);
  allowed : SameAllowed (g.W.Wire.allows l.fn.wire) (g.W.Wire.allows l.wire);
}
