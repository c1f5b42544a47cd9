-- The next exchange holds an open link.
use Rattle.std.proofs.Common.{sym, ◌∙◌, ap}
use Rattle.request_pool.specs.Pools.{Pooled}
use Rattle.request_pool.proofs.Steps.{next_linked}
use Rattle.request_pool.proofs.pool.Pool.poll_next.Goals as goal

pub poll_flight-requires-clause-linked : goal.poll_flight-requires-clause-linked
poll_flight-requires-clause-linked g c =
    next_linked c.args.self.now c.in-Some.flight c.pop_front.new.self.items (g.W.Wire.state c.args.wire.now) c.requires.suits (sym (ap (λ (x : Pooled). x.due) c.self.view_is) ∙ c.in-Some.ensures.items)
