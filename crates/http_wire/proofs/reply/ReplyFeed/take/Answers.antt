use Rattle.std.proofs.Common.{ap, ◌∙◌}
use Rattle.http_wire.specs.Replies.{Feeding, reply_at}
use Rattle.http_wire.proofs.KeptLemmas.{take_whole, take_none, is_other}
use Rattle.http_wire.proofs.reply.ReplyFeed.take.Goals as goal

pub returns-then-not-is_at : goal.returns-then-not-is_at
returns-then-not-is_at c =
    take_none c.self.inside.state c.self.inside.received.items c.self.invariant (is_other _ _ _ c.is_at.ensures c.if-not-is_at.true) ∙ ap (λ (f : Feeding). reply_at f.place) c.self.view_is

pub returns : goal.returns
returns c =
    take_whole c.self.inside.state c.self.inside.received.items _ _ c.self.invariant (c.is_at.ensures.0 c.if-not-is_at.false)
    (λ g is. let e = c.compact-keeps.ensures g is in (c.from_vec.ensures ∙ e.0, e.1)) ∙ ap (λ (f : Feeding). reply_at f.place) c.self.view_is
