use Rattle.data_files.specs.KeptLaws.{sink_none}
use Rattle.tpf_cli.proofs.Asked.{no_numbers}
use Rattle.tpf_cli.proofs.commands.write_numbers.Goals as goal

pub returns-in-Err-clause-line : goal.returns-in-Err-clause-line
returns-in-Err-clause-line g c = no_numbers (g.K.Sink.state c.args.out.now) c.args.came c.in-Err.fault c.in-Err.is

pub returns-in-Err-clause-output : goal.returns-in-Err-clause-output
returns-in-Err-clause-output g c = sink_none _
