use Rattle.std.proofs.Common.{◌≡◌, map, take}
use Rattle.clap.specs.Words.{app_of}
use Rattle.command_words.specs.Apps.{rule_of, with_rules}
use Rattle.command_words.specs.Forms.{texts}
use Rattle.command_words.proofs.arguments.with_arguments.Given as goal

abbrev pub invariant-loop-name : goal.invariant-loop-name
invariant-loop-name l = app_of l.command ≡ with_rules (app_of l.initial.command) (map (rule_of l.role) (texts (take l.name-index l.names)))
