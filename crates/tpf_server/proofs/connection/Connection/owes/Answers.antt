use Rattle.std.proofs.Common.{drop, subst, ◌∙◌}
use Rattle.tpf_server.specs.Owed.{Fits}
use Rattle.tpf_server.specs.Conversation.{Conversation}
use Rattle.tpf_server.proofs.ConversationLaws.{conversation, none_owed, owes_left, some_owed}
use Rattle.tpf_server.proofs.connection.Connection.owes.Goals as goal

pub returns-else-self-clause-nothing : goal.returns-else-self-clause-nothing
returns-else-self-clause-nothing c =
    λ none config.
    none_owed c.args.self.now config (owes_left (conversation c.self.inside.requests.bytes c.self.inside.reading c.self.inside.debt.rest c.self.inside.debt.waiting.items (drop c.self.inside.given c.self.inside.bytes.items) c.self.inside.starved) c.args.self.now c.is_left.result c.self.view_is c.if-self.false c.is_left.ensures ∙ none)

pub returns-else-self-clause-some : goal.returns-else-self-clause-some
returns-else-self-clause-some c =
    λ left fed config.
    some_owed c.args.self.now config (subst (λ (x : Conversation). Fits x.rest x.waiting) c.self.view_is c.self.invariant.2)
    (owes_left (conversation c.self.inside.requests.bytes c.self.inside.reading c.self.inside.debt.rest c.self.inside.debt.waiting.items (drop c.self.inside.given c.self.inside.bytes.items) c.self.inside.starved) c.args.self.now c.is_left.result c.self.view_is c.if-self.false c.is_left.ensures ∙ left) fed
