-- The turns so far.
use Rattle.std.proofs.Common.{◌≡◌, List}
use Rattle.tpf_base.specs.Links.{SameAllowed}
use Rattle.bgp_core.specs.Solutions.{Places}
use Rattle.tpf_client.specs.Traffic.{PoolEvent}
use Rattle.tpf_client.specs.Told.{told_in}
use Rattle.tpf_client.specs.Turns.{keeps_both, Went}
use Rattle.tpf_client.proofs.Sinks.{StaysSink}
use Rattle.tpf_client.proofs.turns.evaluate.Given as goal

abbrev pub invariant-loop : goal.invariant-loop
invariant-loop g l = record {
  went : (events : List PoolEvent) × (taken : List Places) × Went g.E.Evaluates.suits g.E.Evaluates.account (keeps_both g.E.Evaluates.keeps_to g.E.Evaluates.keeps_small) g.E.Evaluates.standing g.E.Evaluates.is_true (g.W.Wire.allows l.fn.wire) l.fn.evaluation.state l.evaluation.state (told_in l.bounds) events taken l.fn.asks l.asks (g.W.Wire.state l.fn.wire) (g.W.Wire.state l.wire) × g.T.TakesRows.takes taken l.fn.rows l.rows l.fn.behind l.behind;
  counts : l.evaluation.tickets ≡ (g.E.Evaluates.standing l.evaluation.state).given;
  sink : StaysSink (g.T.TakesRows.sink l.fn.behind) (g.T.TakesRows.sink l.behind);
  allowed : SameAllowed (g.W.Wire.allows l.fn.wire) (g.W.Wire.allows l.wire);
}
