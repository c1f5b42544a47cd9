use Rattle.std.proofs.Common.{◌∙◌}
use Rattle.command_endings.specs.Names.{why_text}
use Rattle.command_endings.proofs.Said.{along, data_said, fault_line_of, label_line_of, file_line_of}
use Rattle.command_endings.proofs.saying.say_data.Goals as goal

pub returns-in-Bad-clause-says : goal.returns-in-Bad-clause-says
returns-in-Bad-clause-says g c =
    data_said _ (g.E.Sink.state c.args.err.now) (g.E.Sink.state c.write_fault.new.err) c.args.name.now c.args.fault.now _ c.in-Bad.is (along _ _ (g.E.Sink.state c.args.err.now) (g.E.Sink.state c.write_fault.new.err) _ _ (fault_line_of c.in-Bad.line c.why_text.result.now (why_text c.in-Bad.why) c.why_text.ensures) c.write_fault.ensures.says)

pub returns-in-GenidClash-clause-says : goal.returns-in-GenidClash-clause-says
returns-in-GenidClash-clause-says g c =
    data_said _ (g.E.Sink.state c.args.err.now) (g.E.Sink.state c.write_named.new.err) c.args.name.now c.args.fault.now _ c.in-GenidClash.is (along _ _ (g.E.Sink.state c.args.err.now) (g.E.Sink.state c.write_named.new.err) _ _ (label_line_of c.as_bytes.result.now _ (c.as_bytes.ensures.value ∙ c.as_str.ensures.value)) c.write_named.ensures.says)

pub returns-in-TooMany-clause-says : goal.returns-in-TooMany-clause-says
returns-in-TooMany-clause-says g c = data_said _ (g.E.Sink.state c.args.err.now) (g.E.Sink.state c.write_line-in-TooMany.new.err) c.args.name.now c.args.fault.now _ c.in-TooMany.is c.write_line-in-TooMany.ensures.says

pub returns-in-File-clause-says : goal.returns-in-File-clause-says
returns-in-File-clause-says g c =
    data_said _ (g.E.Sink.state c.args.err.now) (g.E.Sink.state c.write_named-in-File.new.err) c.args.name.now c.args.fault.now _ c.in-File.is (along _ _ (g.E.Sink.state c.args.err.now) (g.E.Sink.state c.write_named-in-File.new.err) _ _ (file_line_of c.as_bytes-in-File.result.now c.args.name.now c.as_bytes-in-File.ensures.value) c.write_named-in-File.ensures.says)
