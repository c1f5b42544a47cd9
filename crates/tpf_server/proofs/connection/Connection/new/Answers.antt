use Rattle.tpf_server.proofs.ConversationLaws.{opened_answers}
use Rattle.tpf_server.proofs.connection.Connection.new.Goals as goal

pub returns-clause-answers : goal.returns-clause-answers
returns-clause-answers c =
    λ history config. opened_answers history config c.new.result c.new-2.result.rest c.new-2.result.waiting.items c.new-3.result.items c.new.ensures c.new-2.ensures.rest c.new-2.ensures.waiting c.new-3.ensures.items
