use Rattle.std.proofs.Common.{[], ◌∷◌, ◌++◌, ap, sym, ◌∙◌}
use Rattle.tpf_server.specs.declared.asked.Queued.{Queued}
use Rattle.tpf_server.proofs.Readings.{if_ok, refused_next, taken_next}
use Rattle.tpf_server.proofs.owed.Debt.read_head.Goals as goal

pub returns-in_ok-push_back-in-Bad-clause-ok : goal.returns-in_ok-push_back-in-Bad-clause-ok
returns-in_ok-push_back-in-Bad-clause-ok c =
    refused_next c.args.server.now c.args.requests.now c.next.new.self c.args.self.now.waiting.items c.push_back.new.self.items c.in-Bad.status c.requires (sym c.in-Bad.is ∙ c.in_ok-next.ensures.ok)
    (c.in_ok-push_back-in-Bad.ensures.items ∙ ap (λ (q : Queued). c.args.self.now.waiting.items ++ q ∷ []) c.refusal_of.ensures)

pub returns-in-Head-clause-ok : goal.returns-in-Head-clause-ok
returns-in-Head-clause-ok c =
    if_ok c.queue.result
    (λ read queued. taken_next c.args.server.now c.args.requests.now c.next.new.self c.args.self.now.waiting.items c.queue.new.self.waiting.items c.in-Head.head read c.requires (sym c.in-Head.is ∙ c.in_ok-next.ensures.ok) c.in_ok-next.ensures.after queued)
    c.queue.ensures.ok
