-- Parts of what is owed come behind what is pending.
use Rattle.std.proofs.Common.{ap, drop, refl, subst, ◌∙◌, arith}
use Rattle.tpf_server.specs.declared.owed.Debt.{Debt}
use Rattle.tpf_server.specs.Owed.{Fits}
use Rattle.tpf_server.specs.Conversation.{Conversation}
use Rattle.tpf_server.proofs.ConversationLaws.{conversation, makes_some}
use Rattle.tpf_server.proofs.KeptLaws.{few_pending, half_on, makes_kept, nothing_fits, same_fits, begins_behind, on_ok_failed}
use Rattle.list_laws.proofs.Results.{any_err}
use Rattle.tpf_server.proofs.connection.Connection.make_on.Goals as goal

pub fill-requires-clause-fits : goal.fill-requires-clause-fits
fill-requires-clause-fits c =
    same_fits c.self.inside.debt.rest c.replace-debt.result.rest c.self.inside.debt.waiting.items c.replace-debt.result.waiting.items (ap (λ (d : Debt). d.rest) c.replace-debt.ensures.value) (ap (λ (d : Debt). d.waiting.items) c.replace-debt.ensures.value) c.self.invariant.2

pub fill-requires-clause-given : goal.fill-requires-clause-given
fill-requires-clause-given c = omega (arith, c.self.invariant.0)

-- after want of memory nothing is owed
pub invariant_of-self : goal.invariant_of-self
invariant_of-self c = (
  half_on c.self.inside.given c.self.inside.bytes.items c.fill.new.out.items c.self.invariant.0 c.fill.ensures.front,
  c.self.invariant.1,
  nothing_fits c.replace-debt.new.dest.rest c.replace-debt.new.dest.waiting.items (ap (λ (d : Debt). d.rest) c.replace-debt.ensures.after ∙ c.new.ensures.rest) (ap (λ (d : Debt). d.waiting.items) c.replace-debt.ensures.after ∙ c.new.ensures.waiting),
  c.fill.ensures.few c.self.invariant.3,
)

pub returns-in_err-fill-clause-ok : goal.returns-in_err-fill-clause-ok
returns-in_err-fill-clause-ok c = on_ok_failed c.from_residual.result _ c.from_residual.ensures.0

pub returns-in_err-fill-clause-few : goal.returns-in_err-fill-clause-few
returns-in_err-fill-clause-few c = few_pending c.self.inside.given c.fill.new.out.items (drop c.self.inside.given c.fill.new.out.items) refl (c.fill.ensures.few c.self.invariant.3)

pub returns-in_err-fill-clause-pending : goal.returns-in_err-fill-clause-pending
returns-in_err-fill-clause-pending c = begins_behind c.self.inside.given c.self.inside.bytes.items c.fill.new.out.items c.args.self.now.pending (ap (λ (x : Conversation). x.pending) c.self.view_is) c.self.invariant.0 c.fill.ensures.front

pub returns-in_err-fill-clause-some : goal.returns-in_err-fill-clause-some
returns-in_err-fill-clause-some c = on_ok_failed c.from_residual.result _ c.from_residual.ensures.0

pub returns-in_err-fill-clause-reading : goal.returns-in_err-fill-clause-reading
returns-in_err-fill-clause-reading c = any_err c.from_residual.result _ (ap (λ (x : Conversation). x.reading) c.self.view_is)

pub invariant_of-self-2 : goal.invariant_of-self-2
invariant_of-self-2 c = (
  half_on c.self.inside.given c.self.inside.bytes.items c.fill.new.out.items c.self.invariant.0 c.in_ok-fill.ensures.front,
  c.self.invariant.1,
  same_fits c.fill.new.self.rest c.give_back.new.self.rest c.fill.new.self.waiting.items c.give_back.new.self.waiting.items c.give_back.ensures.rest c.give_back.ensures.waiting c.in_ok-fill.ensures.ok.fits,
  c.in_ok-fill.ensures.few c.self.invariant.3,
)

pub returns-clause-ok : goal.returns-clause-ok
returns-clause-ok c =
    makes_kept c.args.server.now.config c.config.result.now c.self.inside.requests.bytes c.replace-debt.result.rest c.fill.new.self.rest c.give_back.new.self.rest c.replace-debt.result.waiting.items c.fill.new.self.waiting.items c.give_back.new.self.waiting.items c.self.inside.bytes.items c.fill.new.out.items c.self.inside.given c.self.inside.reading c.self.inside.starved c.args.self.now
    c.config.ensures
    (ap (λ (d : Debt). conversation c.self.inside.requests.bytes c.self.inside.reading d.rest d.waiting.items (drop c.self.inside.given c.self.inside.bytes.items) c.self.inside.starved) c.replace-debt.ensures.value ∙ c.self.view_is)
    c.self.invariant.0 c.requires.fed c.in_ok-fill.ensures.ok.fills c.in_ok-fill.ensures.ok.enough c.give_back.ensures.rest c.give_back.ensures.waiting

pub returns-clause-few : goal.returns-clause-few
returns-clause-few c = few_pending c.self.inside.given c.fill.new.out.items (drop c.self.inside.given c.fill.new.out.items) refl (c.in_ok-fill.ensures.few c.self.invariant.3)

pub returns-clause-pending : goal.returns-clause-pending
returns-clause-pending c = begins_behind c.self.inside.given c.self.inside.bytes.items c.fill.new.out.items c.args.self.now.pending (ap (λ (x : Conversation). x.pending) c.self.view_is) c.self.invariant.0 c.in_ok-fill.ensures.front

pub returns-clause-some : goal.returns-clause-some
returns-clause-some c =
    λ left.
    makes_some c.args.server.now.config c.args.self.now _
    (makes_kept c.args.server.now.config c.config.result.now c.self.inside.requests.bytes c.replace-debt.result.rest c.fill.new.self.rest c.give_back.new.self.rest c.replace-debt.result.waiting.items c.fill.new.self.waiting.items c.give_back.new.self.waiting.items c.self.inside.bytes.items c.fill.new.out.items c.self.inside.given c.self.inside.reading c.self.inside.starved c.args.self.now
    c.config.ensures
    (ap (λ (d : Debt). conversation c.self.inside.requests.bytes c.self.inside.reading d.rest d.waiting.items (drop c.self.inside.given c.self.inside.bytes.items) c.self.inside.starved) c.replace-debt.ensures.value ∙ c.self.view_is)
    c.self.invariant.0 c.requires.fed c.in_ok-fill.ensures.ok.fills c.in_ok-fill.ensures.ok.enough c.give_back.ensures.rest c.give_back.ensures.waiting)
    (subst (λ (x : Conversation). Fits x.rest x.waiting) c.self.view_is c.self.invariant.2) c.requires.fed left
