-- One more piece is read.
use Rattle.std.proofs.Common.{◌++◌, ap, ◌∙◌}
use Rattle.tpf_base.specs.HttpReply.{is_open}
use Rattle.exchange.proofs.IncomingLemmas.{read_whole, goes_on_is, fed_received}
use Rattle.exchange.proofs.incoming.Incoming.read.Goals as goal

pub invariant_of-self-2 : goal.invariant_of-self-2
invariant_of-self-2 c = read_whole _ _ _ _ _ _ _ c.cuts_do_not_matter.ensures.reading c.what_is_read_is_given.ensures c.cuts_do_not_matter.ensures.place c.a_reply_is_bounded.ensures.most
    c.self.invariant.0 c.self.invariant.1 (ap (λ v. is_open v.place) c.self.view_is ∙ c.requires.goes_on) c.requires.few c.in_ok-fed.ensures.after c.in_ok-fed.ensures.ok c.spare_of-self-inside.ensures

pub returns-clause-received : goal.returns-clause-received
returns-clause-received c = fed_received _ _ _ c.in_ok-fed.ensures.after (ap (λ v. is_open v.place) c.self.view_is ∙ c.requires.goes_on) ∙ ap (λ v. v.received ++ c.args.piece.now) c.self.view_is

pub returns-clause-goes_on : goal.returns-clause-goes_on
returns-clause-goes_on c = goes_on_is _ _ _ _ _ c.what_is_read_is_given.ensures c.in_ok-fed.ensures.after c.in_ok-fed.ensures.ok c.goes_on.ensures

pub returns-clause-bound : goal.returns-clause-bound
returns-clause-bound c = (invariant_of-self-2 c).1.bound
