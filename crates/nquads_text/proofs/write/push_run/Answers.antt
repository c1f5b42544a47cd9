use Rattle.std.proofs.Common.{◌+◌}
use Rattle.std.proofs.lemmas.List.{take_rest}
use Rattle.list_laws.proofs.Begins.{begins_on}
use Rattle.nquads_text.proofs.Runs.{run_is}
use Rattle.nquads_text.proofs.write.push_run.Goals as goal

pub returns-clause-ok : goal.returns-clause-ok
returns-clause-ok c =
    run_is c.args.form.now c.args.out.now.items c.push_all.new.out.items c.push_byte.new.out.items _ c.args.n c.requires.place c.requires.within c.in_ok-push_all.ensures.ok c.in_ok-push_byte.ensures.ok (take_rest c.args.form.now (c.args.n + 1))

pub returns-in_err-push_byte-clause-front : goal.returns-in_err-push_byte-clause-front
returns-in_err-push_byte-clause-front c = begins_on c.args.out.now.items c.push_all.new.out.items c.push_byte.new.out.items c.in_ok-push_all.ensures.front c.in_err-push_byte.ensures.front

pub returns-clause-front : goal.returns-clause-front
returns-clause-front c = begins_on c.args.out.now.items c.push_all.new.out.items c.push_byte.new.out.items c.in_ok-push_all.ensures.front c.in_ok-push_byte.ensures.front
