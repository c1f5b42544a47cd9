-- Each argument is the one more of its role, with the name that it has.
use Rattle.command_words.proofs.Adding.{adds_positional, adds_option, adds_flag}
use Rattle.command_words.proofs.arguments.with_argument.Goals as goal

pub returns-in-Positional : goal.returns-in-Positional
returns-in-Positional c = adds_positional _ _ c.args.role c.args.name c.new.result c.action.result c.new.ensures.rule c.new.ensures.optional.1 c.in-Positional.is c.action.ensures c.arg.ensures

pub returns-in-Option : goal.returns-in-Option
returns-in-Option c = adds_option _ _ c.args.role c.args.name c.new-in-Option.result c.action-in-Option.result c.new-in-Option.ensures.rule c.new-in-Option.ensures.optional.1 c.long.result c.in-Option.is c.long.ensures c.action-in-Option.ensures c.arg-in-Option.ensures

pub returns-in-Flag : goal.returns-in-Flag
returns-in-Flag c = adds_flag _ _ c.args.role c.args.name c.new-in-Flag.result c.action-in-Flag.result c.new-in-Flag.ensures.rule c.new-in-Flag.ensures.optional.1 c.long-in-Flag.result c.in-Flag.is c.long-in-Flag.ensures c.action-in-Flag.ensures c.arg-in-Flag.ensures
