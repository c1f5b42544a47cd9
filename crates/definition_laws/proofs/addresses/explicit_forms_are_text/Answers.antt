use Rattle.template_fill.proofs.Quotes.{forms_are_text}
use Rattle.definition_laws.proofs.addresses.explicit_forms_are_text.Goals as goal

pub returns : goal.returns
returns c = forms_are_text
