use Rattle.http_wire.proofs.FeedLemmas.{kept_searched}
use Rattle.http_wire.proofs.request.RequestFeed.append.Goals as goal

pub invariant_of-self-2 : goal.invariant_of-self-2
invariant_of-self-2 c = kept_searched c.self.inside.bytes.items c.args.piece.now c.extend_from_slice.new.self.items c.self.inside.given c.self.inside.blank c.self.inside.searched c.self.invariant.0 c.self.invariant.1 c.in_ok-extend_from_slice.ensures.items
