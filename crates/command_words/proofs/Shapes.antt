-- The commands are of the kind of which clap says its matches and its faults.
use Rattle.std.proofs.Common.{◌≡◌, ◌∙◌, true, List, Option, Result, IfOk, option_map, refl, sym, ap, subst}
use Rattle.clap.specs.Words.{is_simple_and_free}
use Rattle.clap.specs.declared.parser.matches.ArgMatches.{ArgMatches}
use Rattle.clap.proofs.OnLiterals.{clap_on_literals}
use Rattle.command_words.specs.Apps.{app_of_form, found_in}
use Rattle.command_words.specs.Words.{Form, Text, arguments}
use Rattle.command_words.specs.CommandNames.{form_by}
use Rattle.command_words.specs.declared.from.Name.{Name}
use Rattle.command_words.specs.declared.from.Name.TheVariants.{Local, Query, Federate, Serve, Make}
use Rattle.command_words.specs.Commands.{local_form, query_form, federate_form, serve_form, make_form}

pub is_free : (name : Name) → is_simple_and_free (app_of_form (form_by name)) ≡ true
unfolding local_form query_form federate_form serve_form make_form clap_on_literals
is_free Local = refl
is_free Query = refl
is_free Federate = refl
is_free Serve = refl
is_free Make = refl

-- the form of a name is that of the name that it is
pub form_named : (form : Form) (name one : Name) → form ≡ form_by one → name ≡ one → form ≡ form_by name
form_named form name one same is = same ∙ sym (ap form_by is)

-- the arguments of a form are those of the command that has it
pub by_form : {E : Type 0} (name : Name) (form : Form) (found : Result (Option ArgMatches) E) (words : List Text) → form ≡ form_by name → IfOk found (λ o. option_map found_in o ≡ arguments form words)
    → IfOk found (λ o. option_map found_in o ≡ arguments (form_by name) words)
by_form name form found words same h = subst (λ (f : Form). IfOk found (λ o. option_map found_in o ≡ arguments f words)) same h
