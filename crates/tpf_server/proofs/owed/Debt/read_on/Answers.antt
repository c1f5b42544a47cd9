use Rattle.tpf_server.proofs.Readings.{if_ok, reads_behind, reads_last}
use Rattle.tpf_server.proofs.owed.Debt.read_on.Goals as goal

pub returns-then-closes-clause-ok : goal.returns-then-closes-clause-ok
returns-then-closes-clause-ok c =
    reads_last c.args.server.now c.args.outcome c.args.closes c.args.requests.now.bytes c.args.self.now.waiting.items c.push_back.new.self.items c.reload_answer.result c.args.requests.now c.if-closes.true c.reload_answer.ensures c.in_ok-push_back.ensures.items

pub returns-clause-ok : goal.returns-clause-ok
returns-clause-ok c =
    if_ok c.read_heads.result
    (λ reading heads. reads_behind c.args.server.now c.args.outcome c.args.closes c.args.requests.now.bytes c.args.self.now.waiting.items c.push_back.new.self.items c.read_heads.new.self.waiting.items c.reload_answer.result reading c.read_heads.new.requests c.if-closes.false c.reload_answer.ensures c.in_ok-push_back.ensures.items heads)
    c.read_heads.ensures.ok
