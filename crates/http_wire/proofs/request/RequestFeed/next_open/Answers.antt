use Rattle.std.proofs.Common.{◌≡◌, sym, ap, subst, ◌∙◌, arith}
use Rattle.std.specs.Prelude.{IfOk, OnOk, ◌≤◌, ◌<◌, length}
use Rattle.tpf_base.specs.HttpHeads.{NextRequest}
use Rattle.http_wire.specs.Requests.{shown, after_answer}
use Rattle.http_wire.proofs.FeedLemmas.{next_full, next_more, next_long, next_judged}
use Rattle.http_wire.proofs.request.RequestFeed.next_open.Goals as goal

pub returns-then-held-ge-HEAD_LIMIT-clause-ok : goal.returns-then-held-ge-HEAD_LIMIT-clause-ok
returns-then-held-ge-HEAD_LIMIT-clause-ok c =
    let full : 4194304 ≤ length c.args.self.now.bytes = omega (arith, c.if-held-ge-HEAD_LIMIT.true, c.held.ensures) in
    c.refuse.ensures.answer ∙ ap shown (sym (next_full c.args.self.now.bytes c.look-blank.result.0 c.look-blank.result.1 c.look-blank.ensures.blank c.look-blank.ensures.head c.in-None.is full))

pub returns-then-held-ge-HEAD_LIMIT-clause-after :
    goal.returns-then-held-ge-HEAD_LIMIT-clause-after
returns-then-held-ge-HEAD_LIMIT-clause-after c =
    let full : 4194304 ≤ length c.args.self.now.bytes = omega (arith, c.if-held-ge-HEAD_LIMIT.true, c.held.ensures) in
    c.refuse.ensures.state ∙ ap (after_answer c.args.self.now) (sym (next_full c.args.self.now.bytes c.look-blank.result.0 c.look-blank.result.1 c.look-blank.ensures.blank c.look-blank.ensures.head c.in-None.is full))

pub returns-then-blank-n-gt-HEAD_LIMIT-clause-ok :
    goal.returns-then-blank-n-gt-HEAD_LIMIT-clause-ok
returns-then-blank-n-gt-HEAD_LIMIT-clause-ok c =
    c.refuse-then-blank-n-gt-HEAD_LIMIT.ensures.answer ∙ ap shown (sym (next_long c.args.self.now.bytes c.look-blank.result.0 c.look-blank.result.1 c.in-Some.n c.look-blank.ensures.blank c.look-blank.ensures.head c.in-Some.is c.if-blank-n-gt-HEAD_LIMIT.true))

pub returns-then-blank-n-gt-HEAD_LIMIT-clause-after :
    goal.returns-then-blank-n-gt-HEAD_LIMIT-clause-after
returns-then-blank-n-gt-HEAD_LIMIT-clause-after c =
    c.refuse-then-blank-n-gt-HEAD_LIMIT.ensures.state ∙ ap (after_answer c.args.self.now) (sym (next_long c.args.self.now.bytes c.look-blank.result.0 c.look-blank.result.1 c.in-Some.n c.look-blank.ensures.blank c.look-blank.ensures.head c.in-Some.is c.if-blank-n-gt-HEAD_LIMIT.true))

pub returns-else-held-ge-HEAD_LIMIT-clause-ok : goal.returns-else-held-ge-HEAD_LIMIT-clause-ok
returns-else-held-ge-HEAD_LIMIT-clause-ok c =
    let few : length c.args.self.now.bytes < 4194304 = omega (arith, c.if-held-ge-HEAD_LIMIT.false, c.held.ensures) in
    ap shown (sym (next_more c.args.self.now.bytes c.look-blank.result.0 c.look-blank.result.1 c.look-blank.ensures.blank c.look-blank.ensures.head c.in-None.is few))

pub returns-else-held-ge-HEAD_LIMIT-clause-after :
    goal.returns-else-held-ge-HEAD_LIMIT-clause-after
returns-else-held-ge-HEAD_LIMIT-clause-after c =
    let few : length c.args.self.now.bytes < 4194304 = omega (arith, c.if-held-ge-HEAD_LIMIT.false, c.held.ensures) in
    c.note.ensures ∙ ap (after_answer c.args.self.now) (sym (next_more c.args.self.now.bytes c.look-blank.result.0 c.look-blank.result.1 c.look-blank.ensures.blank c.look-blank.ensures.head c.in-None.is few))

pub returns-else-blank-n-gt-HEAD_LIMIT-clause-ok :
    goal.returns-else-blank-n-gt-HEAD_LIMIT-clause-ok
returns-else-blank-n-gt-HEAD_LIMIT-clause-ok c =
    subst (λ (r : NextRequest). IfOk c.give.result (λ a. a ≡ shown r)) (sym (next_judged c.args.self.now.bytes c.look-blank.result.0 c.look-blank.result.1 c.in-Some.n c.look-blank.ensures.blank c.look-blank.ensures.head c.in-Some.is c.if-blank-n-gt-HEAD_LIMIT.false)) c.give.ensures.ok

pub returns-else-blank-n-gt-HEAD_LIMIT-clause-after :
    goal.returns-else-blank-n-gt-HEAD_LIMIT-clause-after
returns-else-blank-n-gt-HEAD_LIMIT-clause-after c =
    subst (λ (r : NextRequest). OnOk c.give.result (c.give.new.self ≡ after_answer c.args.self.now r)) (sym (next_judged c.args.self.now.bytes c.look-blank.result.0 c.look-blank.result.1 c.in-Some.n c.look-blank.ensures.blank c.look-blank.ensures.head c.in-Some.is c.if-blank-n-gt-HEAD_LIMIT.false)) c.give.ensures.after
