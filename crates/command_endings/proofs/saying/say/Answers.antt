-- Each ending has its line.
use Rattle.command_endings.proofs.Said.{run_said}
use Rattle.command_endings.proofs.saying.say.Goals as goal

pub returns-in-Usage-clause-says : goal.returns-in-Usage-clause-says
returns-in-Usage-clause-says g c = run_said _ (g.E.Sink.state c.args.err.now) (g.E.Sink.state c.write_line.new.err) c.args.ending.now _ c.in-Usage.is c.write_line.ensures.says

pub returns-in-Usage-clause-keeps : goal.returns-in-Usage-clause-keeps
returns-in-Usage-clause-keeps g c = c.write_line.ensures.keeps

pub returns-in-NoWords-clause-says : goal.returns-in-NoWords-clause-says
returns-in-NoWords-clause-says g c = run_said _ (g.E.Sink.state c.args.err.now) (g.E.Sink.state c.write_line-in-NoWords.new.err) c.args.ending.now _ c.in-NoWords.is c.write_line-in-NoWords.ensures.says

pub returns-in-NoWords-clause-keeps : goal.returns-in-NoWords-clause-keeps
returns-in-NoWords-clause-keeps g c = c.write_line-in-NoWords.ensures.keeps

pub returns-in-Answered-clause-says : goal.returns-in-Answered-clause-says
returns-in-Answered-clause-says g c = run_said _ (g.E.Sink.state c.args.err.now) (g.E.Sink.state c.say_answer.new.err) c.args.ending.now _ c.in-Answered.is c.say_answer.ensures.says

pub returns-in-Answered-clause-keeps : goal.returns-in-Answered-clause-keeps
returns-in-Answered-clause-keeps g c = c.say_answer.ensures.keeps

pub returns-in-Served-clause-says : goal.returns-in-Served-clause-says
returns-in-Served-clause-says g c = run_said _ (g.E.Sink.state c.args.err.now) (g.E.Sink.state c.say_service.new.err) c.args.ending.now _ c.in-Served.is c.say_service.ensures.says

pub returns-in-Served-clause-keeps : goal.returns-in-Served-clause-keeps
returns-in-Served-clause-keeps g c = c.say_service.ensures.keeps

pub returns-in-Made-clause-says : goal.returns-in-Made-clause-says
returns-in-Made-clause-says g c = run_said _ (g.E.Sink.state c.args.err.now) (g.E.Sink.state c.say_made.new.err) c.args.ending.now _ c.in-Made.is c.say_made.ensures.says

pub returns-in-Made-clause-keeps : goal.returns-in-Made-clause-keeps
returns-in-Made-clause-keeps g c = c.say_made.ensures.keeps

pub returns-in-Counted-clause-says : goal.returns-in-Counted-clause-says
returns-in-Counted-clause-says g c = run_said _ (g.E.Sink.state c.args.err.now) (g.E.Sink.state c.say_counted.new.err) c.args.ending.now _ c.in-Counted.is c.say_counted.ensures.says

pub returns-in-Counted-clause-keeps : goal.returns-in-Counted-clause-keeps
returns-in-Counted-clause-keeps g c = c.say_counted.ensures.keeps
