use Rattle.control_laws.proofs.LawWhole.{controls_read_back, nothing_else_is_read, pages_are_there}
use Rattle.control_laws.proofs.controls_read_back.Goals as goal

pub returns-clause-taken : goal.returns-clause-taken
returns-clause-taken c = controls_read_back

pub returns-clause-only : goal.returns-clause-only
returns-clause-only c = nothing_else_is_read

pub returns-clause-there : goal.returns-clause-there
returns-clause-there c = pages_are_there
