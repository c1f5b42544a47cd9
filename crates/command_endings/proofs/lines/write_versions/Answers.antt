use Rattle.std.proofs.Common.{◌∙◌}
use Rattle.data_files.specs.KeptLaws.{sink_none}
use Rattle.command_endings.proofs.Said.{along, unsaid}
use Rattle.command_endings.proofs.lines.write_versions.Goals as goal

pub returns-in-Ok-clause-says : goal.returns-in-Ok-clause-says
returns-in-Ok-clause-says g c = along _ _ (g.E.Sink.state c.args.err.now) (g.E.Sink.state c.write_line.new.err) _ _ (c.deref.ensures.value ∙ c.in-Ok.ensures) c.write_line.ensures.says

pub returns-in-Err-clause-says : goal.returns-in-Err-clause-says
returns-in-Err-clause-says g c = unsaid _ (g.E.Sink.state c.args.err.now) _

pub returns-in-Err-clause-keeps : goal.returns-in-Err-clause-keeps
returns-in-Err-clause-keeps g c = sink_none _
