use Rattle.command_words.specs.Apps.{rule_of}
use Rattle.command_words.proofs.Loops.{more_rules}
use Rattle.command_words.proofs.arguments.with_arguments.Goals as goal

pub loop-name-preserved : goal.loop-name-preserved
loop-name-preserved c = more_rules (rule_of c.args.role) _ _ _ c.args.names.now c.loop-name.name-index _ c.loop-name-test.true c.loop-name.invariant c.in_ok-command.ensures
