use Rattle.std.proofs.Common.{◌≡◌, true, sym, subst}
use Rattle.clap.specs.Words.{is_simple_and_free}
use Rattle.command_words.specs.Apps.{app_of_form}
use Rattle.command_words.specs.Words.{Form}
use Rattle.command_words.proofs.Shapes.{by_form, is_free}
use Rattle.command_words.proofs.from.arguments_by.Goals as goal

pub arguments_of-requires-clause-free : goal.arguments_of-requires-clause-free
arguments_of-requires-clause-free c = subst (λ (form : Form). is_simple_and_free (app_of_form form) ≡ true) (sym c.form_by.ensures.form) (is_free c.args.name)

pub returns : goal.returns
returns c = by_form c.args.name _ _ _ c.form_by.ensures.form c.arguments_of.ensures
