-- The oldest exchange holds an open link.
use Rattle.std.proofs.Common.{sym, ◌∙◌, ap}
use Rattle.request_pool.specs.Pools.{Pooled}
use Rattle.request_pool.proofs.Steps.{linked_as, oldest_linked}
use Rattle.request_pool.proofs.pool.Pool.give_up.Goals as goal

pub shut-requires : goal.shut-requires
shut-requires g c = linked_as c.link.result c.in-Some.flight.exchange.link (g.W.Wire.state c.args.wire.now) c.link.ensures
    (oldest_linked c.args.self.now c.in-Some.flight c.pop_front.new.self.items (g.W.Wire.state c.args.wire.now) c.requires.suits (sym (ap (λ (x : Pooled). x.polled) c.self.view_is) ∙ c.in-Some.ensures.items))
