-- The positionals, the options and the flags are given one after another to a bare command.
use Rattle.std.proofs.lemmas.Result.{IfOk-from_err}
use Rattle.command_words.specs.Forms.{form_of}
use Rattle.command_words.proofs.Adding.{formed}
use Rattle.command_words.proofs.arguments.command_with.Goals as goal

pub returns-in_err-command : goal.returns-in_err-command
returns-in_err-command c = IfOk-from_err _ _ c.from_residual.ensures.0

pub returns-in_err-command-2 : goal.returns-in_err-command-2
returns-in_err-command-2 c = IfOk-from_err _ _ c.from_residual-in_err-command-2.ensures.0

pub returns : goal.returns
returns c = formed _ _ _ _ (form_of c.args.positionals.now c.args.options.now c.args.flags.now) c.bare_command-command.ensures c.in_ok-command.ensures c.in_ok-command-2.ensures c.with_arguments-3.ensures
