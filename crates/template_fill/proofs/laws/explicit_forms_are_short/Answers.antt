use Rattle.template_fill.proofs.Quotes.{forms_are_short}
use Rattle.template_fill.proofs.laws.explicit_forms_are_short.Goals as goal

pub returns : goal.returns
returns c = forms_are_short
