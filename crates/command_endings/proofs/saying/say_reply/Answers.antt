-- Each fault of a reply has its line.
use Rattle.command_endings.proofs.Said.{along, reply_said, status_line_of}
use Rattle.command_endings.proofs.saying.say_reply.Goals as goal

pub returns-in-Head-clause-says : goal.returns-in-Head-clause-says
returns-in-Head-clause-says g c = reply_said _ (g.E.Sink.state c.args.err.now) (g.E.Sink.state c.write_line.new.err) c.args.fault _ c.in-Head.is c.write_line.ensures.says

pub returns-in-Head-clause-keeps : goal.returns-in-Head-clause-keeps
returns-in-Head-clause-keeps g c = c.write_line.ensures.keeps

pub returns-in-Status-clause-says : goal.returns-in-Status-clause-says
returns-in-Status-clause-says g c = reply_said _ (g.E.Sink.state c.args.err.now) (g.E.Sink.state c.write_number.new.err) c.args.fault _ c.in-Status.is (along _ _ (g.E.Sink.state c.args.err.now) (g.E.Sink.state c.write_number.new.err) _ _ (status_line_of c.from.result c.in-Status.status c.from.ensures) c.write_number.ensures.says)

pub returns-in-Status-clause-keeps : goal.returns-in-Status-clause-keeps
returns-in-Status-clause-keeps g c = c.write_number.ensures.keeps

pub returns-in-MediaType-clause-says : goal.returns-in-MediaType-clause-says
returns-in-MediaType-clause-says g c = reply_said _ (g.E.Sink.state c.args.err.now) (g.E.Sink.state c.write_line-in-MediaType.new.err) c.args.fault _ c.in-MediaType.is c.write_line-in-MediaType.ensures.says

pub returns-in-MediaType-clause-keeps : goal.returns-in-MediaType-clause-keeps
returns-in-MediaType-clause-keeps g c = c.write_line-in-MediaType.ensures.keeps

pub returns-in-Coding-clause-says : goal.returns-in-Coding-clause-says
returns-in-Coding-clause-says g c = reply_said _ (g.E.Sink.state c.args.err.now) (g.E.Sink.state c.write_line-in-Coding.new.err) c.args.fault _ c.in-Coding.is c.write_line-in-Coding.ensures.says

pub returns-in-Coding-clause-keeps : goal.returns-in-Coding-clause-keeps
returns-in-Coding-clause-keeps g c = c.write_line-in-Coding.ensures.keeps

pub returns-in-Framing-clause-says : goal.returns-in-Framing-clause-says
returns-in-Framing-clause-says g c = reply_said _ (g.E.Sink.state c.args.err.now) (g.E.Sink.state c.write_line-in-Framing.new.err) c.args.fault _ c.in-Framing.is c.write_line-in-Framing.ensures.says

pub returns-in-Framing-clause-keeps : goal.returns-in-Framing-clause-keeps
returns-in-Framing-clause-keeps g c = c.write_line-in-Framing.ensures.keeps

pub returns-in-TooLong-clause-says : goal.returns-in-TooLong-clause-says
returns-in-TooLong-clause-says g c = reply_said _ (g.E.Sink.state c.args.err.now) (g.E.Sink.state c.write_line-in-TooLong.new.err) c.args.fault _ c.in-TooLong.is c.write_line-in-TooLong.ensures.says

pub returns-in-TooLong-clause-keeps : goal.returns-in-TooLong-clause-keeps
returns-in-TooLong-clause-keeps g c = c.write_line-in-TooLong.ensures.keeps
