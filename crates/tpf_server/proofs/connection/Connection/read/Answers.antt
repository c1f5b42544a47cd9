use Rattle.std.proofs.Common.{ap, sym, ◌∙◌}
use Rattle.tpf_server.specs.Conversation.{Conversation}
use Rattle.tpf_server.proofs.ConversationLaws.{feeds_nothing}
use Rattle.tpf_server.proofs.connection.Connection.read.Goals as goal

pub returns-in-Ended-clause-ok : goal.returns-in-Ended-clause-ok
returns-in-Ended-clause-ok c =
    feeds_nothing c.args.server.now c.args.piece.now c.args.self.now (sym (ap (λ (x : Conversation). x.reading) c.self.view_is) ∙ c.in-Ended.is) (sym (ap (λ (x : Conversation). x.starved) c.self.view_is) ∙ c.if-self.false)
