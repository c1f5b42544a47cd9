-- What is made is what is owed; where enough is pending, or nothing is owed, nothing is made.
use Rattle.std.proofs.Common.{drop, Bool, [], length, refl, ap, sym, ◌∙◌, inl, arith, append-nil, length-drop}
use Rattle.tpf_server.proofs.ConversationLaws.{conversation, idle_makes, owes_left}
use Rattle.std.specs.Prelude.{◌||◌}
use Rattle.std.proofs.lemmas.Bool.{true≢false}
use Rattle.list_laws.proofs.Begins.{itself_begins}
use Rattle.tpf_server.specs.Owed.{debt_left}
use Rattle.tpf_server.specs.Conversation.{Conversation}
use Rattle.tpf_server.proofs.KeptLaws.{few_view}
use Rattle.tpf_server.proofs.connection.Connection.make.Goals as goal

pub same-self : goal.same-self
same-self c = refl

pub returns-then-self-clause-few : goal.returns-then-self-clause-few
returns-then-self-clause-few c = few_view c.self.inside.requests.bytes c.self.inside.reading c.self.inside.debt.rest c.self.inside.debt.waiting.items c.self.inside.given c.self.inside.bytes.items c.self.inside.starved c.args.self.now c.self.view_is c.self.invariant.3

pub returns-then-self-clause-full_ok : goal.returns-then-self-clause-full_ok
returns-then-self-clause-full_ok c = λ full fed. absurd (true≢false (sym c.if-self.true ∙ (ap (λ (x : Conversation). x.starved) c.self.view_is ∙ fed)))

pub returns-then-self-clause-idle_ok : goal.returns-then-self-clause-idle_ok
returns-then-self-clause-idle_ok c =
    λ idle.
    absurd (true≢false (sym (ap (λ (b : Bool). b || debt_left c.args.self.now.rest c.args.self.now.waiting) (sym (ap (λ (x : Conversation). x.starved) c.self.view_is) ∙ c.if-self.true)) ∙ idle))

pub returns-then-self-clause-pending : goal.returns-then-self-clause-pending
returns-then-self-clause-pending c = itself_begins c.args.self.now.pending

pub returns-then-self-clause-reading : goal.returns-then-self-clause-reading
returns-then-self-clause-reading c = refl

pub returns-then-self-clause-starved : goal.returns-then-self-clause-starved
returns-then-self-clause-starved c = λ s. refl

pub same-self-then-not-is_left : goal.same-self-then-not-is_left
same-self-then-not-is_left c = refl

pub returns-then-not-is_left-clause-ok : goal.returns-then-not-is_left-clause-ok
returns-then-not-is_left-clause-ok c =
    idle_makes c.args.server.now.config (conversation c.self.inside.requests.bytes c.self.inside.reading c.self.inside.debt.rest c.self.inside.debt.waiting.items (drop c.self.inside.given c.self.inside.bytes.items) c.self.inside.starved) c.args.self.now c.is_left.result
    c.self.view_is c.if-self.false c.is_left.ensures c.if-not-is_left.true

pub returns-then-not-is_left-clause-few : goal.returns-then-not-is_left-clause-few
returns-then-not-is_left-clause-few c = few_view c.self.inside.requests.bytes c.self.inside.reading c.self.inside.debt.rest c.self.inside.debt.waiting.items c.self.inside.given c.self.inside.bytes.items c.self.inside.starved c.args.self.now c.self.view_is c.self.invariant.3

pub returns-then-not-is_left-clause-full : goal.returns-then-not-is_left-clause-full
returns-then-not-is_left-clause-full c = λ h. refl

pub returns-then-not-is_left-clause-full_ok : goal.returns-then-not-is_left-clause-full_ok
returns-then-not-is_left-clause-full_ok c = λ h fed. refl

pub returns-then-not-is_left-clause-idle : goal.returns-then-not-is_left-clause-idle
returns-then-not-is_left-clause-idle c = λ h. refl

pub returns-then-not-is_left-clause-idle_ok : goal.returns-then-not-is_left-clause-idle_ok
returns-then-not-is_left-clause-idle_ok c = λ h. refl

pub returns-then-not-is_left-clause-pending : goal.returns-then-not-is_left-clause-pending
returns-then-not-is_left-clause-pending c = itself_begins c.args.self.now.pending

pub returns-then-not-is_left-clause-some : goal.returns-then-not-is_left-clause-some
returns-then-not-is_left-clause-some c = λ left. absurd (true≢false (sym left ∙ (owes_left (conversation c.self.inside.requests.bytes c.self.inside.reading c.self.inside.debt.rest c.self.inside.debt.waiting.items (drop c.self.inside.given c.self.inside.bytes.items) c.self.inside.starved) c.args.self.now c.is_left.result c.self.view_is c.if-self.false c.is_left.ensures ∙ c.if-not-is_left.true)))

pub returns-then-not-is_left-clause-starved : goal.returns-then-not-is_left-clause-starved
returns-then-not-is_left-clause-starved c = λ s. sym (sym (ap (λ (x : Conversation). x.starved) c.self.view_is) ∙ c.if-self.false) ∙ s

pub same-self-then-len-self-ge-ENOUGH_PENDING : goal.same-self-then-len-self-ge-ENOUGH_PENDING
same-self-then-len-self-ge-ENOUGH_PENDING c = refl

pub returns-then-len-self-ge-ENOUGH_PENDING-clause-ok : goal.returns-then-len-self-ge-ENOUGH_PENDING-clause-ok
returns-then-len-self-ge-ENOUGH_PENDING-clause-ok c = record {
  part = [];
  owed = refl;
  pending = sym (append-nil c.args.self.now.pending);
  enough = inl (omega (arith, c.if-len-self-ge-ENOUGH_PENDING.true, c.len.ensures, ap (λ (x : Conversation). length x.pending) c.self.view_is, length-drop c.self.inside.given c.self.inside.bytes.items));
  unread = refl;
  reading = refl;
  starved = sym (ap (λ (x : Conversation). x.starved) c.self.view_is) ∙ c.if-self.false;
}

pub returns-then-len-self-ge-ENOUGH_PENDING-clause-few : goal.returns-then-len-self-ge-ENOUGH_PENDING-clause-few
returns-then-len-self-ge-ENOUGH_PENDING-clause-few c = few_view c.self.inside.requests.bytes c.self.inside.reading c.self.inside.debt.rest c.self.inside.debt.waiting.items c.self.inside.given c.self.inside.bytes.items c.self.inside.starved c.args.self.now c.self.view_is c.self.invariant.3

pub returns-then-len-self-ge-ENOUGH_PENDING-clause-full : goal.returns-then-len-self-ge-ENOUGH_PENDING-clause-full
returns-then-len-self-ge-ENOUGH_PENDING-clause-full c = λ h. refl

pub returns-then-len-self-ge-ENOUGH_PENDING-clause-full_ok : goal.returns-then-len-self-ge-ENOUGH_PENDING-clause-full_ok
returns-then-len-self-ge-ENOUGH_PENDING-clause-full_ok c = λ h fed. refl

pub returns-then-len-self-ge-ENOUGH_PENDING-clause-idle : goal.returns-then-len-self-ge-ENOUGH_PENDING-clause-idle
returns-then-len-self-ge-ENOUGH_PENDING-clause-idle c = λ h. refl

pub returns-then-len-self-ge-ENOUGH_PENDING-clause-idle_ok : goal.returns-then-len-self-ge-ENOUGH_PENDING-clause-idle_ok
returns-then-len-self-ge-ENOUGH_PENDING-clause-idle_ok c = λ h. refl

pub returns-then-len-self-ge-ENOUGH_PENDING-clause-pending : goal.returns-then-len-self-ge-ENOUGH_PENDING-clause-pending
returns-then-len-self-ge-ENOUGH_PENDING-clause-pending c = itself_begins c.args.self.now.pending

pub returns-then-len-self-ge-ENOUGH_PENDING-clause-some : goal.returns-then-len-self-ge-ENOUGH_PENDING-clause-some
returns-then-len-self-ge-ENOUGH_PENDING-clause-some c = λ left. omega (arith, c.if-len-self-ge-ENOUGH_PENDING.true, c.len.ensures, ap (λ (x : Conversation). length x.pending) c.self.view_is, length-drop c.self.inside.given c.self.inside.bytes.items)

pub returns-then-len-self-ge-ENOUGH_PENDING-clause-starved : goal.returns-then-len-self-ge-ENOUGH_PENDING-clause-starved
returns-then-len-self-ge-ENOUGH_PENDING-clause-starved c = λ s. sym (sym (ap (λ (x : Conversation). x.starved) c.self.view_is) ∙ c.if-self.false) ∙ s

pub same-self-2 : goal.same-self-2
same-self-2 c = refl

pub make_on-requires : goal.make_on-requires
make_on-requires c = record { fed = sym (ap (λ (x : Conversation). x.starved) c.self.view_is) ∙ c.if-self.false }

pub returns-clause-ok : goal.returns-clause-ok
returns-clause-ok c = c.make_on.ensures.ok

pub returns-clause-few : goal.returns-clause-few
returns-clause-few c = c.make_on.ensures.few

pub returns-clause-full : goal.returns-clause-full
returns-clause-full c = λ full. absurd (omega (arith, full, c.if-len-self-ge-ENOUGH_PENDING.false, c.len.ensures, ap (λ (x : Conversation). length x.pending) c.self.view_is, length-drop c.self.inside.given c.self.inside.bytes.items))

pub returns-clause-full_ok : goal.returns-clause-full_ok
returns-clause-full_ok c = λ full fed. absurd (omega (arith, full, c.if-len-self-ge-ENOUGH_PENDING.false, c.len.ensures, ap (λ (x : Conversation). length x.pending) c.self.view_is, length-drop c.self.inside.given c.self.inside.bytes.items))

pub returns-clause-idle : goal.returns-clause-idle
returns-clause-idle c = λ idle. absurd (true≢false (sym (owes_left (conversation c.self.inside.requests.bytes c.self.inside.reading c.self.inside.debt.rest c.self.inside.debt.waiting.items (drop c.self.inside.given c.self.inside.bytes.items) c.self.inside.starved) c.args.self.now c.is_left.result c.self.view_is c.if-self.false c.is_left.ensures ∙ c.if-not-is_left.false) ∙ idle))

pub returns-clause-idle_ok : goal.returns-clause-idle_ok
returns-clause-idle_ok c = λ idle. absurd (true≢false (sym (owes_left (conversation c.self.inside.requests.bytes c.self.inside.reading c.self.inside.debt.rest c.self.inside.debt.waiting.items (drop c.self.inside.given c.self.inside.bytes.items) c.self.inside.starved) c.args.self.now c.is_left.result c.self.view_is c.if-self.false c.is_left.ensures ∙ c.if-not-is_left.false) ∙ idle))

pub returns-clause-pending : goal.returns-clause-pending
returns-clause-pending c = c.make_on.ensures.pending

pub returns-clause-some : goal.returns-clause-some
returns-clause-some c = c.make_on.ensures.some

pub returns-clause-reading : goal.returns-clause-reading
returns-clause-reading c = c.make_on.ensures.reading

pub returns-clause-starved : goal.returns-clause-starved
returns-clause-starved c = λ s. absurd (true≢false (sym s ∙ (sym (ap (λ (x : Conversation). x.starved) c.self.view_is) ∙ c.if-self.false)))
