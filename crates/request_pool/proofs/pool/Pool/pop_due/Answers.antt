-- The last exchange is taken out.
use Rattle.std.proofs.Common.{sym, ◌∙◌, ap}
use Rattle.request_pool.specs.Pools.{Pooled}
use Rattle.request_pool.proofs.Closing.{pops_due}
use Rattle.request_pool.proofs.pool.Pool.pop_due.Goals as goal

pub returns-clause-some : goal.returns-clause-some
returns-clause-some c = pops_due c.args.self.now _ c.in_ok-flight.flight c.pop_back.new.self.items _ (sym (ap (λ (x : Pooled). x.due) c.self.view_is) ∙ c.in_ok-flight.ensures.items) (ap (λ (x : Pooled). record x { due = c.pop_back.new.self.items }) c.self.view_is) c.link.ensures
