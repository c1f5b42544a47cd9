-- An exchange that waits is underway on an open link.
use Rattle.std.proofs.Common.{ℕ, Option, sym, subst}
use Rattle.exchange.specs.Exchanges.{IsLinked}
use Rattle.client_cases.proofs.LinkLemmas.{none_left, ready_left}
use Rattle.client_cases.proofs.polling.polled.Goals as goal

pub loop-polls-preserved : goal.loop-polls-preserved
loop-polls-preserved g c = let w = c.in-None.ensures.answers in
    record { underway = w.standing; link = subst (λ (o : Option ℕ). IsLinked o (g.W.Wire.state c.poll.new.wire)) (sym w.link) w.is_open }

pub returns-in-Some : goal.returns-in-Some
returns-in-Some g c = record { left = ready_left _ _ _ _ _ c.in-Some.ensures.answers }

pub returns : goal.returns
returns g c = record { left = none_left _ c.loop-polls.exchange.link (g.W.Wire.state c.loop-polls.wire) c.loop-polls.invariant.underway }
