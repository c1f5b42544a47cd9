use Rattle.nquads_text.proofs.ReadLaws.{all_readable}
use Rattle.nquads_text.proofs.laws.what_is_read_is_readable.Goals as goal

pub returns : goal.returns
returns c = all_readable
