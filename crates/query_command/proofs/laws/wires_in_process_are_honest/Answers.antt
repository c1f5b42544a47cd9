use Rattle.query_command.proofs.Honest.{wires_are_honest}
use Rattle.query_command.proofs.laws.wires_in_process_are_honest.Goals as goal

pub returns : goal.returns
returns c = wires_are_honest
