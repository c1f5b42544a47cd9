use Rattle.std.proofs.Common.{map, string_bytes}
use Rattle.command_words.proofs.Names.{no_command}
use Rattle.command_words.proofs.from.command_by.Goals as goal

pub returns-in_default : goal.returns-in_default
returns-in_default c = no_command c.args.name.now (map string_bytes c.args.words.now) c.in_default.not-local c.in_default.not-query c.in_default.not-federate c.in_default.not-serve c.in_default.not-make
