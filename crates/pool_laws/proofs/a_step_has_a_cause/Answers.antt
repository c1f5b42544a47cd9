use Rattle.pool_laws.proofs.Causes.{replies_are_read, faults_have_causes}
use Rattle.pool_laws.proofs.a_step_has_a_cause.Goals as goal

pub returns-clause-reply : goal.returns-clause-reply
returns-clause-reply c = replies_are_read c.authorities_are_hosts_and_ports.ensures

pub returns-clause-fault : goal.returns-clause-fault
returns-clause-fault c = faults_have_causes c.authorities_are_hosts_and_ports.ensures
