use Rattle.pool_laws.proofs.Kept.{empty_follows, put_follows, closed_follows, fault_follows, others_follow, flights_follow}
use Rattle.pool_laws.specs.Following.{AnswersSoFar}
use Rattle.pool_laws.proofs.KeptBySteps.{by_turn, by_running, by_run, by_step}
use Rattle.pool_laws.proofs.Running.{answers_are_kept}
use Rattle.pool_laws.proofs.whole_replies_come_first.Goals as goal

pub returns-clause-empty : goal.returns-clause-empty
returns-clause-empty c = empty_follows

pub returns-clause-put : goal.returns-clause-put
returns-clause-put c = put_follows

pub returns-clause-close : goal.returns-clause-close
returns-clause-close c = closed_follows

pub returns-clause-fault : goal.returns-clause-fault
returns-clause-fault c = fault_follows

pub returns-clause-others : goal.returns-clause-others
returns-clause-others c = others_follow

pub returns-clause-flight : goal.returns-clause-flight
returns-clause-flight c = flights_follow

pub returns-clause-start : goal.returns-clause-start
returns-clause-start c = (answers_are_kept c.authorities_are_hosts_and_ports.ensures).starts

pub returns-clause-poll : goal.returns-clause-poll
returns-clause-poll c = (answers_are_kept c.authorities_are_hosts_and_ports.ensures).polls

pub returns-clause-turn : goal.returns-clause-turn
returns-clause-turn c = by_turn AnswersSoFar (answers_are_kept c.authorities_are_hosts_and_ports.ensures)

pub returns-clause-running : goal.returns-clause-running
returns-clause-running c = by_running AnswersSoFar (answers_are_kept c.authorities_are_hosts_and_ports.ensures)

pub returns-clause-run : goal.returns-clause-run
returns-clause-run c = by_run AnswersSoFar (answers_are_kept c.authorities_are_hosts_and_ports.ensures)

pub returns-clause-step : goal.returns-clause-step
returns-clause-step c = by_step AnswersSoFar (answers_are_kept c.authorities_are_hosts_and_ports.ensures)
