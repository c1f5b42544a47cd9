use Rattle.std.proofs.Common.{◌∙◌, ap}
use Rattle.http_wire.specs.Replies.{starting}
use Rattle.http_wire.proofs.KeptLemmas.{read_none}
use Rattle.http_wire.proofs.reply.ReplyFeed.new.Goals as goal

pub invariant_of-result : goal.invariant_of-result
invariant_of-result c = (read_none c.new.result c.new-2.result.items c.new-2.ensures.items c.new.ensures.stage c.new.ensures.passed c.new.ensures.begins c.new.ensures.count).0

pub returns : goal.returns
returns c = (read_none c.new.result c.new-2.result.items c.new-2.ensures.items c.new.ensures.stage c.new.ensures.passed c.new.ensures.begins c.new.ensures.count).1 ∙ ap starting c.new.ensures.limit
