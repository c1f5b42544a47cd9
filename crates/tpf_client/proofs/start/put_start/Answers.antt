-- Nothing is held, so no ask has the ticket; the copy is the address.
use Rattle.std.proofs.Common.{List, ◌≢◌, ◌^◌, ◌-◌, sym, subst}
use Rattle.std.specs.List.{AllByRecursion}
use Rattle.std.proofs.lemmas.Result.{on_ok_weaker}
use Rattle.tpf_base.specs.Addresses.{Address}
use Rattle.request_pool.specs.Pools.{Ask}
use Rattle.tpf_client.specs.Asking.{PutsOne}
use Rattle.tpf_client.proofs.start.put_start.Goals as goal

pub put-requires : goal.put-requires
put-requires c = record { fresh = subst (λ (l : List Ask). AllByRecursion (λ ask. ask.ticket ≢ 2 ^ 64 - 1) l) (sym c.requires.none) tt }

pub returns-in-Ok-clause-ok : goal.returns-in-Ok-clause-ok
returns-in-Ok-clause-ok c = on_ok_weaker c.put.result (λ p. subst (λ (a : Address). PutsOne (record { ticket = 2 ^ 64 - 1; address = a }) c.args.asks.now c.put.new.self) c.in-Ok.ensures p) c.put.ensures.ok
