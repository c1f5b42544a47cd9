use Rattle.std.proofs.Common.{arith}
use Rattle.fragment_pages.proofs.Counts.{last_of_some}
use Rattle.fragment_pages.proofs.view.last_of.Goals as goal

pub returns-else-count-eq0 : goal.returns-else-count-eq0
returns-else-count-eq0 c = last_of_some c.args.count c.args.size c.requires (grind arith)
