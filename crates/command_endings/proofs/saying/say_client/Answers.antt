-- Each fault of a call over a wire has its line.
use Rattle.command_endings.specs.Names.{page_text}
use Rattle.command_endings.proofs.Said.{along, client_said, page_line_of}
use Rattle.command_endings.proofs.saying.say_client.Goals as goal

pub returns-in-Exchange-clause-says : goal.returns-in-Exchange-clause-says
returns-in-Exchange-clause-says g c = client_said _ (g.E.Sink.state c.args.err.now) (g.E.Sink.state c.write_line.new.err) c.args.fault.now _ c.in-Exchange.is c.write_line.ensures.says

pub returns-in-Exchange-clause-keeps : goal.returns-in-Exchange-clause-keeps
returns-in-Exchange-clause-keeps g c = c.write_line.ensures.keeps

pub returns-in-Stalled-clause-says : goal.returns-in-Stalled-clause-says
returns-in-Stalled-clause-says g c = client_said _ (g.E.Sink.state c.args.err.now) (g.E.Sink.state c.write_line-in-Stalled.new.err) c.args.fault.now _ c.in-Stalled.is c.write_line-in-Stalled.ensures.says

pub returns-in-Stalled-clause-keeps : goal.returns-in-Stalled-clause-keeps
returns-in-Stalled-clause-keeps g c = c.write_line-in-Stalled.ensures.keeps

pub returns-in-Cut-clause-says : goal.returns-in-Cut-clause-says
returns-in-Cut-clause-says g c = client_said _ (g.E.Sink.state c.args.err.now) (g.E.Sink.state c.write_line-in-Cut.new.err) c.args.fault.now _ c.in-Cut.is c.write_line-in-Cut.ensures.says

pub returns-in-Cut-clause-keeps : goal.returns-in-Cut-clause-keeps
returns-in-Cut-clause-keeps g c = c.write_line-in-Cut.ensures.keeps

pub returns-in-Reply-clause-says : goal.returns-in-Reply-clause-says
returns-in-Reply-clause-says g c = client_said _ (g.E.Sink.state c.args.err.now) (g.E.Sink.state c.say_reply.new.err) c.args.fault.now _ c.in-Reply.is c.say_reply.ensures.says

pub returns-in-Reply-clause-keeps : goal.returns-in-Reply-clause-keeps
returns-in-Reply-clause-keeps g c = c.say_reply.ensures.keeps

pub returns-in-Page-clause-says : goal.returns-in-Page-clause-says
returns-in-Page-clause-says g c = client_said _ (g.E.Sink.state c.args.err.now) (g.E.Sink.state c.write_named.new.err) c.args.fault.now _ c.in-Page.is (along _ _ (g.E.Sink.state c.args.err.now) (g.E.Sink.state c.write_named.new.err) _ _ (page_line_of c.page_text.result.now (page_text c.in-Page.fault) c.page_text.ensures) c.write_named.ensures.says)

pub returns-in-Page-clause-keeps : goal.returns-in-Page-clause-keeps
returns-in-Page-clause-keeps g c = c.write_named.ensures.keeps

pub returns-in-Changed-clause-says : goal.returns-in-Changed-clause-says
returns-in-Changed-clause-says g c = client_said _ (g.E.Sink.state c.args.err.now) (g.E.Sink.state c.write_versions.new.err) c.args.fault.now _ c.in-Changed.is c.write_versions.ensures.says

pub returns-in-Changed-clause-keeps : goal.returns-in-Changed-clause-keeps
returns-in-Changed-clause-keeps g c = c.write_versions.ensures.keeps

pub returns-in-Budget-clause-says : goal.returns-in-Budget-clause-says
returns-in-Budget-clause-says g c = client_said _ (g.E.Sink.state c.args.err.now) (g.E.Sink.state c.write_number.new.err) c.args.fault.now _ c.in-Budget.is c.write_number.ensures.says

pub returns-in-Budget-clause-keeps : goal.returns-in-Budget-clause-keeps
returns-in-Budget-clause-keeps g c = c.write_number.ensures.keeps

pub returns-in-Sink-clause-says : goal.returns-in-Sink-clause-says
returns-in-Sink-clause-says g c = client_said _ (g.E.Sink.state c.args.err.now) (g.E.Sink.state c.write_line-in-Sink.new.err) c.args.fault.now _ c.in-Sink.is c.write_line-in-Sink.ensures.says

pub returns-in-Sink-clause-keeps : goal.returns-in-Sink-clause-keeps
returns-in-Sink-clause-keeps g c = c.write_line-in-Sink.ensures.keeps

pub returns-in-OutOfMemory-clause-says : goal.returns-in-OutOfMemory-clause-says
returns-in-OutOfMemory-clause-says g c = client_said _ (g.E.Sink.state c.args.err.now) (g.E.Sink.state c.write_line-in-OutOfMemory.new.err) c.args.fault.now _ c.in-OutOfMemory.is c.write_line-in-OutOfMemory.ensures.says

pub returns-in-OutOfMemory-clause-keeps : goal.returns-in-OutOfMemory-clause-keeps
returns-in-OutOfMemory-clause-keeps g c = c.write_line-in-OutOfMemory.ensures.keeps
