use Rattle.pool_laws.proofs.Rising.{empty_rose, put_rose, fault_rose, steps_rose, steps_rose_by_some}
use Rattle.pool_laws.proofs.failures_are_rises.Goals as goal

pub returns-clause-empty : goal.returns-clause-empty
returns-clause-empty g c = empty_rose

pub returns-clause-put : goal.returns-clause-put
returns-clause-put g c = put_rose

pub returns-clause-fault : goal.returns-clause-fault
returns-clause-fault g c = fault_rose

pub returns-clause-step : goal.returns-clause-step
returns-clause-step g c = steps_rose c.ends_are_true.ensures c.authorities_are_hosts_and_ports.ensures (g.W.Wire.allows c.args.wire.now) (g.W.Wire.state c.args.wire.now)

pub returns-clause-step_by_some : goal.returns-clause-step_by_some
returns-clause-step_by_some g c = steps_rose_by_some c.ends_are_true.ensures c.authorities_are_hosts_and_ports.ensures (g.W.Wire.allows c.args.wire.now) (g.W.Wire.state c.args.wire.now)
