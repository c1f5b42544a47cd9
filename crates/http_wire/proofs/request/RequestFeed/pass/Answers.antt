use Rattle.std.proofs.Common.{ap}
use Rattle.http_wire.specs.Requests.{Held}
use Rattle.http_wire.proofs.FeedLemmas.{pass_within, unsearched}
use Rattle.http_wire.proofs.request.RequestFeed.pass.Goals as goal

pub drop_given-self-inside-requires : goal.drop_given-self-inside-requires
drop_given-self-inside-requires c = pass_within c.self.inside.bytes.items c.self.inside.given c.args.n c.args.self.now.bytes (ap (λ (h : Held). h.bytes) c.self.view_is) c.self.invariant.0 c.requires.within

pub invariant_of-self : goal.invariant_of-self
invariant_of-self c = (c.drop_given-self-inside.ensures.half, unsearched _)
