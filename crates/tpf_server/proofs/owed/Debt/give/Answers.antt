use Rattle.std.proofs.Common.{sym, ◌∙◌}
use Rattle.std.proofs.lemmas.Result.{on_ok_weaker}
use Rattle.tpf_server.proofs.DebtLaws.{answer_given, rest_given}
use Rattle.tpf_server.proofs.owed.Debt.give.Goals as goal

pub returns-then-is_left-clause-ok : goal.returns-then-is_left-clause-ok
returns-then-is_left-clause-ok c =
    on_ok_weaker c.give.result (rest_given c.args.config.now c.args.self.now.rest c.give.new.self c.args.self.now.waiting.items c.args.out.now.items c.give.new.out.items) c.give.ensures.ok

pub returns-in_ok-self-in-Some-clause-ok : goal.returns-in_ok-self-in-Some-clause-ok
returns-in_ok-self-in-Some-clause-ok c =
    answer_given c.args.config.now c.args.self.now.rest c.in_ok-self-in-Some.field-0 c.args.self.now.waiting.items c.pop_front.new.self.items c.in-Some.queued c.args.out.now.items c.begin-begun.new.out.items
    (sym c.is_left.ensures ∙ c.if-is_left.false) c.in-Some.ensures.items c.in_ok-self-in-Some.ensures.ok
