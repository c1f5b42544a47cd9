-- The link that it has, or one that is dialled.
use Rattle.std.proofs.Common.{refl}
use Rattle.exchange.proofs.exchange.Exchange.own_link.Goals as goal

pub same-self : goal.same-self
same-self g c = refl

pub returns-in-Some-clause-allowed : goal.returns-in-Some-clause-allowed
returns-in-Some-clause-allowed g c = λ host port sent owed. (λ x. x, λ x. x)

pub invariant_of-self : goal.invariant_of-self
invariant_of-self g c = record { is_request = c.self.invariant.is_request; within = c.self.invariant.within; goes_on = c.self.invariant.goes_on }

pub same-self-in-Err-Failed : goal.same-self-in-Err-Failed
same-self-in-Err-Failed g c = refl

pub same-self-in-Err-OutOfMemory : goal.same-self-in-Err-OutOfMemory
same-self-in-Err-OutOfMemory g c = refl

pub returns-in-Ok-clause-allowed : goal.returns-in-Ok-clause-allowed
returns-in-Ok-clause-allowed g c = c.dial.ensures.allowed

pub returns-in-Err-Failed-clause-allowed : goal.returns-in-Err-Failed-clause-allowed
returns-in-Err-Failed-clause-allowed g c = c.dial.ensures.allowed

pub returns-in-Err-OutOfMemory-clause-allowed : goal.returns-in-Err-OutOfMemory-clause-allowed
returns-in-Err-OutOfMemory-clause-allowed g c = c.dial.ensures.allowed
