-- The blocks of the steps so far were asked.
use Rattle.std.proofs.Common.{drop}
use Rattle.tpf_base.specs.Links.{SameAllowed}
use Rattle.group_patterns.specs.Asking.{blocks_in, AsksFirst}
use Rattle.group_patterns.proofs.asking.Asking.ask_all.Given as goal

abbrev pub invariant-loop-step : goal.invariant-loop-step
invariant-loop-step g l = record {
  first : AsksFirst (g.W.Wire.allows l.fn.wire) l.calls.options.now l.calls.start.now l.calls.names.now (blocks_in l.steps) (blocks_in (drop l.step-index l.steps)) l.self (g.W.Wire.state l.fn.wire) (g.W.Wire.state l.wire);
  allowed : SameAllowed (g.W.Wire.allows l.fn.wire) (g.W.Wire.allows l.wire);
}
