-- These asks were handed over so far.
use Rattle.std.proofs.Common.{◌≡◌, ◌-◌, List}
use Rattle.request_pool.specs.Pools.{Ask}
use Rattle.tpf_client.specs.Turns.{keeps_both, Hands}
use Rattle.tpf_client.proofs.turns.hand_over.Given as goal

abbrev pub invariant-asks : goal.invariant-asks
invariant-asks g l = record {
  hands : (asked : List Ask) × Hands g.E.Evaluates.suits g.E.Evaluates.account (keeps_both g.E.Evaluates.keeps_to g.E.Evaluates.keeps_small) g.E.Evaluates.standing l.fn.evaluation l.evaluation asked l.fn.asks l.asks;
  counts : l.tickets ≡ (g.E.Evaluates.standing l.evaluation).given;
}

abbrev pub decreases-asks : goal.decreases-asks
decreases-asks g l = 18446744073709551616 - l.tickets
