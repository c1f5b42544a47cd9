use Rattle.std.proofs.Common.{drop}
use Rattle.std.proofs.lemmas.Result.{on_ok_weaker}
use Rattle.tpf_server.proofs.ConversationLaws.{keeps}
use Rattle.tpf_server.proofs.connection.Connection.keep.Goals as goal

pub returns-clause-ok : goal.returns-clause-ok
returns-clause-ok c =
    on_ok_weaker c.feed.result
    (keeps c.args.server.now c.args.piece.now c.self.inside.requests c.feed.new.self c.self.inside.reading c.self.inside.debt.rest c.self.inside.debt.waiting.items (drop c.self.inside.given c.self.inside.bytes.items) c.self.inside.starved c.args.self.now
    c.self.view_is c.requires.waits c.requires.fed c.self.invariant.1)
    c.feed.ensures.ok
