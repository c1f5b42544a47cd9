use Rattle.std.proofs.Common.{refl, sym, ◌∙◌}
use Rattle.tpf_server.proofs.owed.Debt.queue.Goals as goal

pub returns-then-asks_reload-clause-ok : goal.returns-then-asks_reload-clause-ok
returns-then-asks_reload-clause-ok c = (refl, (refl, sym c.asks_reload.ensures ∙ c.if-asks_reload.true))

pub returns-clause-ok : goal.returns-clause-ok
returns-clause-ok c =
    (c.in_ok-answer.answer, (c.in_ok-push_back.ensures.items, (c.in_ok-answer.ensures.asked, (refl, (sym c.asks_reload.ensures ∙ c.if-asks_reload.false, (c.in_ok-answer.ensures.answer, (c.in_ok-answer.ensures.body, c.in_ok-answer.ensures.closes)))))))
