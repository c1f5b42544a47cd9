use Rattle.query_command.specs.Loops.{local_base}
use Rattle.query_command.proofs.Starts.{is_base, is_some_base}
use Rattle.query_command.proofs.start.local_start.Goals as goal

pub returns-in-Ok : goal.returns-in-Ok
returns-in-Ok c = c.an_address_is_one.ensures.one _ _ local_base c.in-Ok.ensures.read is_base

pub unreachable-requires : goal.unreachable-requires
unreachable-requires c = is_some_base (c.in-Err-BadAddress.ensures.refused.0 (cc))
