use Rattle.std.proofs.Common.{ap, drop, ◌∙◌}
use Rattle.http_wire.specs.Requests.{Held}
use Rattle.tpf_server.specs.declared.owed.Debt.{Debt}
use Rattle.tpf_server.proofs.ConversationLaws.{conversation, fed_open, feeds}
use Rattle.tpf_server.proofs.KeptLaws.{heads_fit, heads_open, kept_open, nothing_fits, same_fits}
use Rattle.tpf_server.proofs.connection.Connection.read_on.Goals as goal

pub read_heads-requires : goal.read_heads-requires
read_heads-requires c =
    ap (λ (h : Held). h.refused) (c.in_ok-feed.ensures.ok ∙ fed_open c.self.inside.requests c.replace-requests.result c.args.piece.now c.replace-requests.ensures.value c.self.invariant.1)

pub remaining_feed-requires : goal.remaining_feed-requires
remaining_feed-requires c =
    heads_open c.args.server.now c.feed.new.self.bytes c.replace-debt.result.waiting.items c.read_heads.new.self.waiting.items c.in-Ok.reading c.read_heads.new.requests c.is_ended.result c.is_ended.ensures c.in-Ok.ensures.ok

-- after want of memory nothing is owed
pub invariant_of-self : goal.invariant_of-self
invariant_of-self c = (
  c.self.invariant.0,
  ap (λ (h : Held). h.refused) (c.replace-requests.ensures.after ∙ c.new.ensures),
  nothing_fits c.replace-debt.new.dest.rest c.replace-debt.new.dest.waiting.items (ap (λ (d : Debt). d.rest) c.replace-debt.ensures.after ∙ c.new-2.ensures.rest) (ap (λ (d : Debt). d.waiting.items) c.replace-debt.ensures.after ∙ c.new-2.ensures.waiting),
  c.self.invariant.3,
)

pub invariant_of-self-in-Err : goal.invariant_of-self-in-Err
invariant_of-self-in-Err c = (
  c.self.invariant.0,
  ap (λ (h : Held). h.refused) (c.replace-requests.ensures.after ∙ c.new.ensures),
  nothing_fits c.replace-debt.new.dest.rest c.replace-debt.new.dest.waiting.items (ap (λ (d : Debt). d.rest) c.replace-debt.ensures.after ∙ c.new-2.ensures.rest) (ap (λ (d : Debt). d.waiting.items) c.replace-debt.ensures.after ∙ c.new-2.ensures.waiting),
  c.self.invariant.3,
)

pub invariant_of-self-2 : goal.invariant_of-self-2
invariant_of-self-2 c = (
  c.self.invariant.0,
  kept_open c.is_ended.result c.remaining_feed.result c.read_heads.new.requests c.remaining_feed.ensures.ended c.remaining_feed.ensures.open_
      (heads_open c.args.server.now c.feed.new.self.bytes c.replace-debt.result.waiting.items c.read_heads.new.self.waiting.items c.in-Ok.reading c.read_heads.new.requests c.is_ended.result c.is_ended.ensures c.in-Ok.ensures.ok),
  heads_fit c.args.server.now c.feed.new.self.bytes c.replace-debt.result.rest c.read_heads.new.self.rest c.replace-debt.result.waiting.items c.read_heads.new.self.waiting.items c.in-Ok.reading c.read_heads.new.requests
      (same_fits c.self.inside.debt.rest c.replace-debt.result.rest c.self.inside.debt.waiting.items c.replace-debt.result.waiting.items (ap (λ (d : Debt). d.rest) c.replace-debt.ensures.value) (ap (λ (d : Debt). d.waiting.items) c.replace-debt.ensures.value) c.self.invariant.2)
      c.in-Ok.ensures.rest c.in-Ok.ensures.ok,
  c.self.invariant.3,
)

pub returns-clause-ok : goal.returns-clause-ok
returns-clause-ok c =
    feeds c.args.server.now c.args.piece.now c.self.inside.requests.bytes c.replace-debt.result.rest c.read_heads.new.self.rest c.replace-debt.result.waiting.items c.read_heads.new.self.waiting.items (drop c.self.inside.given c.self.inside.bytes.items) c.self.inside.starved
    c.self.inside.reading c.in-Ok.reading c.feed.new.self c.read_heads.new.requests c.remaining_feed.result c.args.self.now
    (ap (λ (d : Debt). conversation c.self.inside.requests.bytes c.self.inside.reading d.rest d.waiting.items (drop c.self.inside.given c.self.inside.bytes.items) c.self.inside.starved) c.replace-debt.ensures.value ∙ c.self.view_is)
    c.requires.reads c.requires.fed (c.in_ok-feed.ensures.ok ∙ fed_open c.self.inside.requests c.replace-requests.result c.args.piece.now c.replace-requests.ensures.value c.self.invariant.1) c.in-Ok.ensures.rest c.in-Ok.ensures.ok (λ h. c.remaining_feed.ensures.open_ (c.is_ended.ensures ∙ h))
