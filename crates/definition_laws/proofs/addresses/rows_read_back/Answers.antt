use Rattle.template_fill.proofs.ReadRows.{rows-read}
use Rattle.definition_laws.proofs.addresses.rows_read_back.Goals as goal

pub returns : goal.returns
returns c = rows-read
