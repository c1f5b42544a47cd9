use Rattle.template_fill.proofs.Ports.{spells_port}
use Rattle.template_fill.proofs.spelled.port_part.Goals as goal

pub returns-in_ok-port-in-Some-clause-spelled : goal.returns-in_ok-port-in-Some-clause-spelled
returns-in_ok-port-in-Some-clause-spelled c = spells_port _ _ _ _ c.in-Some.ensures c.in_ok-port-in-Some.ensures.spelled
