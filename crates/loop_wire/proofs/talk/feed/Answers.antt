-- Bytes are fed behind the reloads that were refused.
use Rattle.std.proofs.lemmas.Result.{IfOk-from_err}
use Rattle.loop_wire.proofs.Feeding.{fed_behind}
use Rattle.loop_wire.proofs.talk.feed.Goals as goal

pub refuse_reloads-requires : goal.refuse_reloads-requires
refuse_reloads-requires g c = c.requires

pub returns-in_err-refuse_reloads-clause-suits : goal.returns-in_err-refuse_reloads-clause-suits
returns-in_err-refuse_reloads-clause-suits g c = IfOk-from_err _ _ c.from_residual.ensures.0

pub returns-in_err-refuse_reloads-clause-feeds : goal.returns-in_err-refuse_reloads-clause-feeds
returns-in_err-refuse_reloads-clause-feeds g c = IfOk-from_err _ _ c.from_residual.ensures.0

pub feed-requires-clause-suits : goal.feed-requires-clause-suits
feed-requires-clause-suits g c = c.in_ok-refuse_reloads.ensures.suits

pub feed-requires-clause-idle : goal.feed-requires-clause-idle
feed-requires-clause-idle g c = c.in_ok-refuse_reloads.ensures.wants

pub returns-in_err-feed-clause-suits : goal.returns-in_err-feed-clause-suits
returns-in_err-feed-clause-suits g c = IfOk-from_err _ _ c.from_residual-in_err-feed.ensures.0

pub returns-in_err-feed-clause-feeds : goal.returns-in_err-feed-clause-feeds
returns-in_err-feed-clause-feeds g c = IfOk-from_err _ _ c.from_residual-in_err-feed.ensures.0

pub returns-clause-suits : goal.returns-clause-suits
returns-clause-suits g c = c.in_ok-feed.ensures.suits

pub returns-clause-feeds : goal.returns-clause-feeds
returns-clause-feeds g c = fed_behind _ _ _ _ _ _ c.in_ok-refuse_reloads.ensures.stays c.in_ok-feed.ensures.feeds
