use Rattle.std.proofs.Common.{◌++◌}
use Rattle.list_laws.proofs.Begins.{begins_on}
use Rattle.nquads_text.proofs.Runs.{two_steps}
use Rattle.nquads_text.proofs.write.push_three.Goals as goal

pub returns-clause-ok : goal.returns-clause-ok
returns-clause-ok c = two_steps c.push_two.result c.args.out.now.items c.push_all.new.out.items c.push_two.new.out.items c.args.first.now (c.args.middle.now ++ c.args.last.now) c.in_ok-push_all.ensures.ok c.push_two.ensures.ok

pub returns-clause-front : goal.returns-clause-front
returns-clause-front c = begins_on c.args.out.now.items c.push_all.new.out.items c.push_two.new.out.items c.in_ok-push_all.ensures.front c.push_two.ensures.front
