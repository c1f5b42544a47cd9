use Rattle.data_files.specs.KeptLaws.{sink_none}
use Rattle.command_endings.proofs.Said.{made_said, silent}
use Rattle.command_endings.proofs.saying.say_made.Goals as goal

pub returns-in-Ok-clause-says : goal.returns-in-Ok-clause-says
returns-in-Ok-clause-says g c = made_said _ (g.E.Sink.state c.args.err.now) (g.E.Sink.state c.args.err.now) c.args.made.now _ c.in-Ok.is (silent 0 (g.E.Sink.state c.args.err.now))

pub returns-in-Ok-clause-keeps : goal.returns-in-Ok-clause-keeps
returns-in-Ok-clause-keeps g c = sink_none _
