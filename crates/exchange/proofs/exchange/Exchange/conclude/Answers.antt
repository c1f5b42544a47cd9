-- A whole reply.
use Rattle.std.proofs.Common.{sym, ap, ◌∙◌}
use Rattle.exchange.proofs.ConcludeLemmas.{conclude_whole, whole_as}
use Rattle.exchange.proofs.TouchLemmas.{over_goes_on}
use Rattle.exchange.proofs.exchange.Exchange.conclude.Goals as goal

pub invariant_of-self : goal.invariant_of-self
invariant_of-self g c = record { is_request = c.self.invariant.is_request; within = c.self.invariant.within; goes_on = λ e. over_goes_on e }

pub settle-requires : goal.settle-requires
settle-requires g c = record { is_open = c.requires.is_open }

pub invariant_of-self-in-Cut : goal.invariant_of-self-in-Cut
invariant_of-self-in-Cut g c = record { is_request = c.self.invariant.is_request; within = c.self.invariant.within; goes_on = λ e. over_goes_on e }

pub settle-requires-in-Cut : goal.settle-requires-in-Cut
settle-requires-in-Cut g c = record { is_open = c.requires.is_open }

pub invariant_of-self-in-Refused : goal.invariant_of-self-in-Refused
invariant_of-self-in-Refused g c = record { is_request = c.self.invariant.is_request; within = c.self.invariant.within; goes_on = λ e. over_goes_on e }

pub settle-requires-in-Refused : goal.settle-requires-in-Refused
settle-requires-in-Refused g c = record { is_open = c.requires.is_open }

pub returns-in-Whole-clause-address : goal.returns-in-Whole-clause-address
returns-in-Whole-clause-address g c = ap (λ x. x.address) c.settle.ensures.standing ∙ ap (λ x. x.address) c.self.view_is

pub returns-in-Whole-clause-limit : goal.returns-in-Whole-clause-limit
returns-in-Whole-clause-limit g c = ap (λ x. x.limit) c.settle.ensures.standing ∙ (ap (λ i. i.limit) c.replace-incoming.ensures.after ∙ (ap (λ i. i.limit) c.new.ensures ∙ (c.limit-limit.ensures ∙ ap (λ x. x.limit) c.self.view_is)))

pub returns-in-Whole-clause-link : goal.returns-in-Whole-clause-link
returns-in-Whole-clause-link g c = ap (λ x. x.link) c.settle.ensures.standing ∙ ap (λ x. x.link) c.self.view_is

pub returns-in-Whole-clause-sent : goal.returns-in-Whole-clause-sent
returns-in-Whole-clause-sent g c = ap (λ x. x.sent) c.settle.ensures.standing ∙ ap (λ x. x.sent) c.self.view_is

pub returns-in-Whole-clause-received : goal.returns-in-Whole-clause-received
returns-in-Whole-clause-received g c = ap (λ x. x.received) c.settle.ensures.standing ∙ (ap (λ i. i.received) c.replace-incoming.ensures.after ∙ ap (λ i. i.received) c.new.ensures)

pub returns-in-Whole-clause-concludes : goal.returns-in-Whole-clause-concludes
returns-in-Whole-clause-concludes g c = conclude_whole _ c.args.self.now c.settle.new.self c.self.inside.incoming c.spare-spare.result _ c.may_stay.result c.in-Whole.reply _ _ (ap (λ x. x.received) (sym c.self.view_is)) (ap (λ x. x.limit) (sym c.self.view_is))
    c.leads.ensures c.requires.ended (whole_as _ _ c.in-Whole.reply c.replace-incoming.ensures.value c.in-Whole.ensures) c.spare-spare.ensures (ap (λ x. x.standing) c.settle.ensures.standing) c.settle.ensures.left c.settle.ensures.closes c.may_stay.ensures

pub returns-in-Whole-clause-allowed : goal.returns-in-Whole-clause-allowed
returns-in-Whole-clause-allowed g c = c.settle.ensures.allowed

pub returns-in-Cut-clause-address : goal.returns-in-Cut-clause-address
returns-in-Cut-clause-address g c = ap (λ x. x.address) c.settle-in-Cut.ensures.standing ∙ ap (λ x. x.address) c.self.view_is

pub returns-in-Cut-clause-limit : goal.returns-in-Cut-clause-limit
returns-in-Cut-clause-limit g c = ap (λ x. x.limit) c.settle-in-Cut.ensures.standing ∙ (ap (λ i. i.limit) c.replace-incoming.ensures.after ∙ (ap (λ i. i.limit) c.new.ensures ∙ (c.limit-limit.ensures ∙ ap (λ x. x.limit) c.self.view_is)))

pub returns-in-Cut-clause-link : goal.returns-in-Cut-clause-link
returns-in-Cut-clause-link g c = ap (λ x. x.link) c.settle-in-Cut.ensures.standing ∙ ap (λ x. x.link) c.self.view_is

pub returns-in-Cut-clause-sent : goal.returns-in-Cut-clause-sent
returns-in-Cut-clause-sent g c = ap (λ x. x.sent) c.settle-in-Cut.ensures.standing ∙ ap (λ x. x.sent) c.self.view_is

pub returns-in-Cut-clause-received : goal.returns-in-Cut-clause-received
returns-in-Cut-clause-received g c = ap (λ x. x.received) c.settle-in-Cut.ensures.standing ∙ (ap (λ i. i.received) c.replace-incoming.ensures.after ∙ ap (λ i. i.received) c.new.ensures)

pub returns-in-Cut-clause-allowed : goal.returns-in-Cut-clause-allowed
returns-in-Cut-clause-allowed g c = c.settle-in-Cut.ensures.allowed

pub returns-in-Refused-clause-address : goal.returns-in-Refused-clause-address
returns-in-Refused-clause-address g c = ap (λ x. x.address) c.settle-in-Refused.ensures.standing ∙ ap (λ x. x.address) c.self.view_is

pub returns-in-Refused-clause-limit : goal.returns-in-Refused-clause-limit
returns-in-Refused-clause-limit g c = ap (λ x. x.limit) c.settle-in-Refused.ensures.standing ∙ (ap (λ i. i.limit) c.replace-incoming.ensures.after ∙ (ap (λ i. i.limit) c.new.ensures ∙ (c.limit-limit.ensures ∙ ap (λ x. x.limit) c.self.view_is)))

pub returns-in-Refused-clause-link : goal.returns-in-Refused-clause-link
returns-in-Refused-clause-link g c = ap (λ x. x.link) c.settle-in-Refused.ensures.standing ∙ ap (λ x. x.link) c.self.view_is

pub returns-in-Refused-clause-sent : goal.returns-in-Refused-clause-sent
returns-in-Refused-clause-sent g c = ap (λ x. x.sent) c.settle-in-Refused.ensures.standing ∙ ap (λ x. x.sent) c.self.view_is

pub returns-in-Refused-clause-received : goal.returns-in-Refused-clause-received
returns-in-Refused-clause-received g c = ap (λ x. x.received) c.settle-in-Refused.ensures.standing ∙ (ap (λ i. i.received) c.replace-incoming.ensures.after ∙ ap (λ i. i.received) c.new.ensures)

pub returns-in-Refused-clause-allowed : goal.returns-in-Refused-clause-allowed
returns-in-Refused-clause-allowed g c = c.settle-in-Refused.ensures.allowed
