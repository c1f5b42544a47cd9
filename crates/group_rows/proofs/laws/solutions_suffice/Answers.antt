use Rattle.group_rows.proofs.Sufficing.{suffice}
use Rattle.group_rows.proofs.laws.solutions_suffice.Goals as goal

pub returns : goal.returns
returns c = suffice c.order_is_free.ensures
