-- What the bytes come to is what the feed says at their end.
use Rattle.std.proofs.Common.{ap, ◌∙◌}
use Rattle.exchange.proofs.IncomingLemmas.{cut_of, refused_of, whole_of}
use Rattle.exchange.proofs.incoming.Incoming.conclude.Goals as goal

pub returns-in-More : goal.returns-in-More
returns-in-More c = cut_of _ _ _ c.self.view_is c.self.invariant.1 c.cuts_do_not_matter.ensures.reading c.what_is_read_is_given.ensures c.in-More.ensures.answer (c.into_received.ensures ∙ ap (λ f. f.received) c.in-More.ensures.after)

pub returns-in-Bad : goal.returns-in-Bad
returns-in-Bad c = refused_of _ _ _ _ c.self.view_is c.self.invariant.1 c.cuts_do_not_matter.ensures.reading c.what_is_read_is_given.ensures c.in-Bad.ensures.answer (c.into_received-in-Bad.ensures ∙ ap (λ f. f.received) c.in-Bad.ensures.after)

pub returns-in-Some : goal.returns-in-Some
returns-in-Some c = whole_of _ _ _ c.in-Some.reply _ c.self.view_is c.self.invariant.1 c.cuts_do_not_matter.ensures.reading c.what_is_read_is_given.ensures c.in-Done.ensures.answer (ap (λ f. f.place) c.in-Done.ensures.after) c.in-Some.ensures
