use Rattle.command_words.specs.Forms.{form_of}
use Rattle.command_words.specs.Commands.{local_form, query_form, federate_form, serve_form}
use Rattle.command_words.specs.declared.from.Name.TheVariants.{Local, Query, Federate, Serve}
use Rattle.command_words.proofs.Shapes.{form_named}
use Rattle.command_words.proofs.from.form_by.Goals as goal

pub returns-in-Local-clause-form : goal.returns-in-Local-clause-form
unfolding local_form
returns-in-Local-clause-form c = form_named _ _ Local (λ i. form_of (c.as_slice.ensures i) (c.as_slice-in-Local.ensures i) (c.as_slice-in-Local-2.ensures i)) c.in-Local.is

pub returns-in-Query-clause-form : goal.returns-in-Query-clause-form
unfolding query_form
returns-in-Query-clause-form c = form_named _ _ Query (λ i. form_of (c.as_slice-in-Query.ensures i) (c.as_slice-in-Query-2.ensures i) (c.as_slice-in-Query-3.ensures i)) c.in-Query.is

pub returns-in-Federate-clause-form : goal.returns-in-Federate-clause-form
unfolding federate_form
returns-in-Federate-clause-form c = form_named _ _ Federate (λ i. form_of (c.as_slice-in-Federate.ensures i) (c.as_slice-in-Federate-2.ensures i) (c.as_slice-in-Federate-3.ensures i)) c.in-Federate.is

pub returns-in-Serve-clause-form : goal.returns-in-Serve-clause-form
unfolding serve_form
returns-in-Serve-clause-form c = form_named _ _ Serve (λ i. form_of (c.as_slice-in-Serve.ensures i) (c.as_slice-in-Serve-2.ensures i) (c.as_slice-in-Serve-3.ensures i)) c.in-Serve.is
