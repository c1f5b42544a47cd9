-- The link is kept, or closed.
use Rattle.std.proofs.Common.{refl}
use Rattle.request_pool.specs.Polls.{Kept, Shut}
use Rattle.request_pool.proofs.pool.Pool.settle.Goals as goal

pub returns-then-keeps_most-clause-ok : goal.returns-then-keeps_most-clause-ok
returns-then-keeps_most-clause-ok g c = Shut c.in-Some.link c.in-Some.is (c.keeps_most.ensures.full c.if-keeps_most.true) refl c.close.ensures.closes

pub returns-in-Ok-clause-ok : goal.returns-in-Ok-clause-ok
returns-in-Ok-clause-ok g c = Kept c.in-Some.link c.in-Some.is (c.keeps_most.ensures.room c.if-keeps_most.false) c.in-Ok.ensures.ok refl

pub returns-in-Err-clause-err : goal.returns-in-Err-clause-err
returns-in-Err-clause-err g c = (c.in-Err.ensures.err, record { k = c.in-Some.link; is_left = c.in-Some.is; closes = c.close-in-Err.ensures.closes })
