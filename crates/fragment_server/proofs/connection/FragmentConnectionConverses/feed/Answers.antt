use Rattle.std.proofs.Common.{subst}
use Rattle.page_responses.specs.Serving.{Serving}
use Rattle.tpf_server.specs.Conversation.{Feeds}
use Rattle.fragment_server.specs.Laws.{feeds_as}
use Rattle.fragment_server.proofs.connection.FragmentConnectionConverses.feed.Goals as goal

pub returns-clause-feeds : goal.returns-clause-feeds
returns-clause-feeds c =
    feeds_as c.args.server.now.server c.args.piece.now c.args.self.now _
    (subst (λ (server : Serving). Feeds server c.args.piece.now c.args.self.now.connection c.feed.new.self) c.server.ensures c.in_ok-feed.ensures.ok)
