-- What is left is what was pending behind the bytes that were taken.
use Rattle.tpf_server.proofs.ConversationLaws.{take_answer, taken_is}
use Rattle.std.proofs.Common.{ap, length, ◌∙◌, arith, length-drop}
use Rattle.tpf_server.specs.Conversation.{Conversation}
use Rattle.tpf_server.proofs.connection.Connection.take.Goals as goal

pub compact-self-inside-requires : goal.compact-self-inside-requires
compact-self-inside-requires c = omega (arith, c.requires, c.self.invariant.0, ap (λ (x : Conversation). length x.pending) c.self.view_is, length-drop c.self.inside.given c.self.inside.bytes.items)

pub invariant_of-self : goal.invariant_of-self
invariant_of-self c = (c.compact-self-inside.ensures.half, c.self.invariant.1, c.self.invariant.2, omega (arith, c.self.invariant.3, c.compact-self-inside.ensures.left))

pub invariant_of-self-else-self-len : goal.invariant_of-self-else-self-len
invariant_of-self-else-self-len c = (c.compact-self-inside.ensures.half, c.self.invariant.1, c.self.invariant.2, omega (arith, c.self.invariant.3, c.compact-self-inside.ensures.left))

pub returns-then-self-len-clause-rest : goal.returns-then-self-len-clause-rest
returns-then-self-len-clause-rest c = c.release.ensures ∙ taken_is c.self.inside.requests.bytes c.self.inside.reading c.self.inside.debt.rest c.self.inside.debt.waiting.items c.self.inside.bytes.items c.compact-self-inside.new.bytes.items c.self.inside.given c.compact-self-inside.result c.args.n c.self.inside.starved c.args.self.now
    c.self.view_is c.compact-self-inside.ensures.pending

pub returns-then-self-len-clause-answers : goal.returns-then-self-len-clause-answers
returns-then-self-len-clause-answers c =
    λ history config fed taken marks a.
    take_answer history config c.args.n c.args.self.now _ (c.release.ensures ∙ taken_is c.self.inside.requests.bytes c.self.inside.reading c.self.inside.debt.rest c.self.inside.debt.waiting.items c.self.inside.bytes.items c.compact-self-inside.new.bytes.items c.self.inside.given c.compact-self-inside.result c.args.n c.self.inside.starved c.args.self.now
    c.self.view_is c.compact-self-inside.ensures.pending) fed taken marks a

pub returns-else-self-len-clause-rest : goal.returns-else-self-len-clause-rest
returns-else-self-len-clause-rest c = taken_is c.self.inside.requests.bytes c.self.inside.reading c.self.inside.debt.rest c.self.inside.debt.waiting.items c.self.inside.bytes.items c.compact-self-inside.new.bytes.items c.self.inside.given c.compact-self-inside.result c.args.n c.self.inside.starved c.args.self.now
    c.self.view_is c.compact-self-inside.ensures.pending

pub returns-else-self-len-clause-answers : goal.returns-else-self-len-clause-answers
returns-else-self-len-clause-answers c =
    λ history config fed taken marks a.
    take_answer history config c.args.n c.args.self.now _
    (taken_is c.self.inside.requests.bytes c.self.inside.reading c.self.inside.debt.rest c.self.inside.debt.waiting.items c.self.inside.bytes.items c.compact-self-inside.new.bytes.items c.self.inside.given c.compact-self-inside.result c.args.n c.self.inside.starved c.args.self.now
    c.self.view_is c.compact-self-inside.ensures.pending)
    fed taken marks a
