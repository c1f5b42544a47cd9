use Rattle.pool_laws.proofs.Answers.{replies_are_answers, refusals_are_too_long, cuts_are_faults}
use Rattle.definition_laws.proofs.pools.a_reply_is_an_answer.Goals as goal

pub returns-clause-replies : goal.returns-clause-replies
returns-clause-replies g c = replies_are_answers c.ends_are_true.ensures c.authorities_are_hosts_and_ports.ensures (g.W.Wire.allows c.args.wire.now) (g.W.Wire.state c.args.wire.now)

pub returns-clause-refused : goal.returns-clause-refused
returns-clause-refused g c = refusals_are_too_long c.ends_are_true.ensures c.authorities_are_hosts_and_ports.ensures (g.W.Wire.allows c.args.wire.now) (g.W.Wire.state c.args.wire.now)

pub returns-clause-cut : goal.returns-clause-cut
returns-clause-cut g c = cuts_are_faults c.ends_are_true.ensures c.authorities_are_hosts_and_ports.ensures (g.W.Wire.allows c.args.wire.now) (g.W.Wire.state c.args.wire.now)

pub returns-clause-tells : goal.returns-clause-tells
returns-clause-tells g c = λ all. record {
  all = all;
  told = g.met.W.Wire.told c.args.wire.now;
  received = g.met.W.Wire.received_is_owed c.args.wire.now;
  owed = g.met.W.Wire.owed_is_allowed c.args.wire.now;
}
