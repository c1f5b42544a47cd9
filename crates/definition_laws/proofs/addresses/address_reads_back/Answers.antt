use Rattle.template_fill.proofs.Questions.{reads_address_back}
use Rattle.definition_laws.proofs.addresses.address_reads_back.Goals as goal

pub returns : goal.returns
returns c = reads_address_back
