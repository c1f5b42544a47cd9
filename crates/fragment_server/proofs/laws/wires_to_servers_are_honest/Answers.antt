use Rattle.fragment_server.proofs.Standing.{wires_are_honest}
use Rattle.fragment_server.proofs.laws.wires_to_servers_are_honest.Goals as goal

pub returns : goal.returns
returns c = wires_are_honest
