-- The link is the one that was left, and the address that of the exchange.
use Rattle.std.proofs.Common.{refl, sym, ◌∙◌, ap}
use Rattle.tpf_base.specs.Addresses.{Address}
use Rattle.request_pool.specs.declared.fault.Polled.TheVariants as polls
use Rattle.request_pool.proofs.Outcomes.{settles_as}
use Rattle.request_pool.proofs.Steps.{linked_as}
use Rattle.request_pool.proofs.pool.Pool.come.Goals as goal

pub settle-requires : goal.settle-requires
settle-requires g c = record { linked = linked_as _ _ _ c.leave-left.ensures c.requires.linked }

pub returns-in-Ok-clause-ok : goal.returns-in-Ok-clause-ok
returns-in-Ok-clause-ok g c = (ap (λ (x : Address). polls.Came c.args.flight.ticket x c.args.reply) c.into_address-address.ensures, settles_as _ _ _ _ _ _ _ _ c.leave-left.ensures c.into_address-address.ensures c.in-Ok.ensures.ok)

pub returns-in-Ok-clause-allowed : goal.returns-in-Ok-clause-allowed
returns-in-Ok-clause-allowed g c = c.settle.ensures.allowed

pub returns-in-Err-clause-err : goal.returns-in-Err-clause-err
returns-in-Err-clause-err g c = let e = c.in-Err.ensures.err in (refl, e.0, record { k = e.1.k; is_left = sym c.leave-left.ensures ∙ e.1.is_left; closes = e.1.closes })

pub returns-in-Err-clause-allowed : goal.returns-in-Err-clause-allowed
returns-in-Err-clause-allowed g c = c.settle.ensures.allowed
