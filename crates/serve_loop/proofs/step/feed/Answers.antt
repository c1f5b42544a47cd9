-- Bytes are fed, and bytes are made.
use Rattle.std.proofs.lemmas.Result.{IfOk-from_err, on_ok_weaker}
use Rattle.std.proofs.Common.{refl}
use Rattle.serve_loop.proofs.step.feed.Goals as goal

pub feed-requires-clause-suits : goal.feed-requires-clause-suits
feed-requires-clause-suits g c = c.requires.suits

pub feed-requires-clause-idle : goal.feed-requires-clause-idle
feed-requires-clause-idle g c = c.requires.idle

pub returns-in_err-feed-clause-answers : goal.returns-in_err-feed-clause-answers
returns-in_err-feed-clause-answers g c = IfOk-from_err _ _ c.from_residual.ensures.0

pub returns-in_err-feed-clause-link : goal.returns-in_err-feed-clause-link
returns-in_err-feed-clause-link g c = refl

pub returns-in_err-feed-clause-suits : goal.returns-in_err-feed-clause-suits
returns-in_err-feed-clause-suits g c = IfOk-from_err _ _ c.from_residual.ensures.0

pub make-requires : goal.make-requires
make-requires g c = record { suits = c.in_ok-feed.ensures.suits }

pub returns-clause-answers : goal.returns-clause-answers
returns-clause-answers g c = on_ok_weaker c.make.result (λ made. record { read = c.feed.new.self; feeds = c.in_ok-feed.ensures.feeds; makes = made }) c.make.ensures.makes

pub returns-clause-link : goal.returns-clause-link
returns-clause-link g c = c.make.ensures.link

pub returns-clause-suits : goal.returns-clause-suits
returns-clause-suits g c = c.make.ensures.suits
