-- The ask is put.
use Rattle.std.proofs.Common.{sym, subst, ◌≢◌}
use Rattle.std.specs.Prelude.{OnOk}
use Rattle.std.specs.List.{AllByRecursion}
use Rattle.request_pool.specs.Pools.{Pooled, held}
use Rattle.tpf_client.specs.Asking.{PutsOne}
use Rattle.tpf_client.proofs.Tickets.{put-one, put-differ}
use Rattle.tpf_client.proofs.asks.Asks.put.Goals as goal

pub put-requires : goal.put-requires
put-requires c = record { fresh = subst (λ (p : Pooled). AllByRecursion (λ a. a.ticket ≢ c.args.ticket) (held p)) (sym c.self.view_is) c.requires.fresh }

pub invariant_of-self : goal.invariant_of-self
invariant_of-self c =
    put-differ (record { ticket = c.args.ticket; address = c.args.address }) c.self.inside.pool c.put.new.self c.put.result c.is_valid.ensures c.put.ensures.ok c.put.ensures.err c.put.ensures.suits
    (subst (λ (p : Pooled). AllByRecursion (λ a. a.ticket ≢ c.args.ticket) (held p)) (sym c.self.view_is) c.requires.fresh) c.self.invariant

pub returns-clause-ok : goal.returns-clause-ok
returns-clause-ok c =
    subst (λ (p : Pooled). OnOk c.put.result (PutsOne (record { ticket = c.args.ticket; address = c.args.address }) p c.put.new.self)) c.self.view_is
    (put-one (record { ticket = c.args.ticket; address = c.args.address }) c.self.inside.pool c.put.new.self c.put.result c.is_valid.ensures c.put.ensures.ok c.put.ensures.suits
    (subst (λ (p : Pooled). AllByRecursion (λ a. a.ticket ≢ c.args.ticket) (held p)) (sym c.self.view_is) c.requires.fresh) c.self.invariant)
