-- The last link is taken out.
use Rattle.std.proofs.Common.{sym, ◌∙◌, ap}
use Rattle.request_pool.specs.Pools.{Pooled}
use Rattle.request_pool.proofs.Closing.{pops_spare}
use Rattle.request_pool.proofs.pool.Pool.pop_spare.Goals as goal

pub returns-clause-some : goal.returns-clause-some
returns-clause-some c = pops_spare c.args.self.now _ c.in_ok-left.left c.pop.new.self.items (sym (ap (λ (x : Pooled). x.spare) c.self.view_is) ∙ c.in_ok-left.ensures.items) (ap (λ (x : Pooled). record x { spare = c.pop.new.self.items }) c.self.view_is)
