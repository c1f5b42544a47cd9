-- These rows were given so far.
use Rattle.std.proofs.Common.{List}
use Rattle.bgp_core.specs.Solutions.{Places}
use Rattle.tpf_client.specs.Turns.{keeps_both, Gives}
use Rattle.tpf_client.proofs.Sinks.{StaysSink}
use Rattle.tpf_client.proofs.turns.give_rows.Given as goal

abbrev pub invariant-waiting : goal.invariant-waiting
invariant-waiting g l = record {
  gives : (taken : List Places) × Gives g.E.Evaluates.suits g.E.Evaluates.account (keeps_both g.E.Evaluates.keeps_to g.E.Evaluates.keeps_small) g.E.Evaluates.standing l.fn.evaluation l.evaluation taken × g.T.TakesRows.takes taken l.fn.rows l.rows l.fn.behind l.behind;
  sink : StaysSink (g.T.TakesRows.sink l.fn.behind) (g.T.TakesRows.sink l.behind);
}

abbrev pub decreases-waiting : goal.decreases-waiting
decreases-waiting g l = (g.E.Evaluates.standing l.evaluation).waiting
