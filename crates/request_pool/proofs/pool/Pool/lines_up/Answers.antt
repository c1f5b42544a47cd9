-- Those in flight are as they were left, or in one line.
use Rattle.std.proofs.Common.{refl}
use Rattle.request_pool.specs.Steps.{InLine, AsLeft}
use Rattle.request_pool.proofs.pool.Pool.lines_up.Goals as goal

pub returns-then-goes_on-clause-ok : goal.returns-then-goes_on-clause-ok
returns-then-goes_on-clause-ok c = λ e. AsLeft refl

pub returns-clause-ok : goal.returns-clause-ok
returns-clause-ok c = λ e. InLine (c.gather.ensures.ok e)
