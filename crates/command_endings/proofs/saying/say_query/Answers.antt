-- Each fault of a query has its line.
use Rattle.command_endings.specs.Names.{group_why_text}
use Rattle.command_endings.proofs.Said.{along, query_said, query_line_of, file_line_of}
use Rattle.command_endings.proofs.saying.say_query.Goals as goal

pub returns-in-Bad-clause-says : goal.returns-in-Bad-clause-says
returns-in-Bad-clause-says g c = query_said _ (g.E.Sink.state c.args.err.now) (g.E.Sink.state c.write_fault.new.err) c.args.name.now c.args.fault _ c.in-Bad.is (along _ _ (g.E.Sink.state c.args.err.now) (g.E.Sink.state c.write_fault.new.err) _ _ (query_line_of c.in-Bad.at c.group_why_text.result.now (group_why_text c.in-Bad.why) c.group_why_text.ensures) c.write_fault.ensures.says)

pub returns-in-Bad-clause-keeps : goal.returns-in-Bad-clause-keeps
returns-in-Bad-clause-keeps g c = c.write_fault.ensures.keeps

pub returns-in-File-clause-says : goal.returns-in-File-clause-says
returns-in-File-clause-says g c = query_said _ (g.E.Sink.state c.args.err.now) (g.E.Sink.state c.write_named.new.err) c.args.name.now c.args.fault _ c.in-File.is (along _ _ (g.E.Sink.state c.args.err.now) (g.E.Sink.state c.write_named.new.err) _ _ (file_line_of c.as_bytes.result.now c.args.name.now c.as_bytes.ensures.value) c.write_named.ensures.says)

pub returns-in-File-clause-keeps : goal.returns-in-File-clause-keeps
returns-in-File-clause-keeps g c = c.write_named.ensures.keeps

pub returns-in-OutOfMemory-clause-says : goal.returns-in-OutOfMemory-clause-says
returns-in-OutOfMemory-clause-says g c = query_said _ (g.E.Sink.state c.args.err.now) (g.E.Sink.state c.write_line.new.err) c.args.name.now c.args.fault _ c.in-OutOfMemory.is c.write_line.ensures.says

pub returns-in-OutOfMemory-clause-keeps : goal.returns-in-OutOfMemory-clause-keeps
returns-in-OutOfMemory-clause-keeps g c = c.write_line.ensures.keeps
