use Rattle.std.proofs.Common.{sym}
use Rattle.own_controls.proofs.own.count_in.Goals as goal

pub returns-clause-lines : goal.returns-clause-lines
returns-clause-lines c = c.in_ok-rest.ensures c.in_ok-count.count (sym c.in_ok-count.ensures.digits)
