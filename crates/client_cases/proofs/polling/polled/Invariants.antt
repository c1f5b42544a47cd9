-- It is underway, and its link, where it has one, is open.
use Rattle.std.proofs.Common.{◌≡◌, ◌-◌}
use Rattle.exchange.specs.Exchanges.{IsLinked}
use Rattle.exchange.specs.declared.exchange.Standing.TheVariants.{Underway}
use Rattle.client_cases.proofs.polling.polled.Given as goal

abbrev pub invariant-loop-polls : goal.invariant-loop-polls
invariant-loop-polls g l = record {
  underway : l.exchange.standing ≡ Underway;
  link : IsLinked l.exchange.link (g.W.Wire.state l.wire);
}

abbrev pub decreases-loop-polls : goal.decreases-loop-polls
decreases-loop-polls g l = l.most - l.polls
