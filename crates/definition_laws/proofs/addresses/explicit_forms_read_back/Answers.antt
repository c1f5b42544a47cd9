use Rattle.template_fill.proofs.Quotes.{reads_back}
use Rattle.definition_laws.proofs.addresses.explicit_forms_read_back.Goals as goal

pub returns : goal.returns
returns c = reads_back
