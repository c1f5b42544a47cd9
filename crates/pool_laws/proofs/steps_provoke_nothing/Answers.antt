use Rattle.pool_laws.proofs.Provoking.{empty_ready, put_ready, steps_spare, none_hang, none_hang_by_some}
use Rattle.pool_laws.proofs.steps_provoke_nothing.Goals as goal

pub returns-clause-empty : goal.returns-clause-empty
returns-clause-empty g c = empty_ready

pub returns-clause-put : goal.returns-clause-put
returns-clause-put g c = put_ready

pub returns-clause-step : goal.returns-clause-step
returns-clause-step g c = steps_spare c.authorities_are_hosts_and_ports.ensures

pub returns-clause-hang : goal.returns-clause-hang
returns-clause-hang g c = none_hang c.ends_are_true.ensures (g.W.Wire.allows c.args.wire.now) (g.W.Wire.state c.args.wire.now)

pub returns-clause-hang_by_some : goal.returns-clause-hang_by_some
returns-clause-hang_by_some g c = none_hang_by_some c.ends_are_true.ensures (g.W.Wire.allows c.args.wire.now) (g.W.Wire.state c.args.wire.now)
