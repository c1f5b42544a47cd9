use Rattle.std.proofs.Common.{◌≡◌, false, drop, length, vec_len, rules, sym, ap, ◌∙◌}
use Rattle.tpf_base.specs.HttpReply.{Place, is_open, at_the_end, reading_from}
use Rattle.http_wire.specs.Places.{gathered_of}
use Rattle.http_wire.specs.Replies.{Feeding, shown, fed}
use Rattle.http_wire.proofs.RunLemmas.{over_reading, longer_none}
use Rattle.http_wire.proofs.KeptLemmas.{feeds_on, runs_of, over_fed}
use Rattle.http_wire.proofs.reply.ReplyFeed.feed.Goals as goal

pub returns-then-not-is_open-clause-ok : goal.returns-then-not-is_open-clause-ok
returns-then-not-is_open-clause-ok c =
    let s = c.self.inside.state in
    let i = c.self.invariant in
    let line = drop s.begins c.self.inside.received.items in
    let over : is_open c.args.self.now.place ≡ false =
    ap (λ (f : Feeding). is_open f.place) (sym c.self.view_is) ∙ ap is_open i.place ∙ c.is_open.ensures s.passed line (gathered_of s i.body) ∙ c.if-not-is_open.true in
    c.answer.ensures s.passed line (gathered_of s i.body) ∙ ap shown (longer_none _) ∙ ap (λ (p : Place). shown (at_the_end false p)) (sym i.place) ∙ ap (λ (f : Feeding). shown (at_the_end false f.place)) c.self.view_is
    ∙ ap shown (sym (over_reading c.args.self.now.limit c.args.self.now.place c.args.piece.now false over))

pub returns-then-not-is_open-clause-after : goal.returns-then-not-is_open-clause-after
returns-then-not-is_open-clause-after c =
    let s = c.self.inside.state in
    let i = c.self.invariant in
    let line = drop s.begins c.self.inside.received.items in
    let over : is_open c.args.self.now.place ≡ false =
    ap (λ (f : Feeding). is_open f.place) (sym c.self.view_is) ∙ ap is_open i.place ∙ c.is_open.ensures s.passed line (gathered_of s i.body) ∙ c.if-not-is_open.true in
    over_fed c.args.self.now c.args.piece.now over

pub invariant_of-self-2 : goal.invariant_of-self-2
invariant_of-self-2 c =
    let long : vec_len c.self.inside.received ≡ length c.self.inside.received.items = search rules in
    (feeds_on c.self.inside.state c.run-used.new.state c.self.inside.received.items c.args.piece.now c.extend_from_slice.new.self.items c.run-used.result c.self.invariant
    (λ passed held g. c.is_open.ensures passed held g ∙ c.if-not-is_open.false) c.in_ok-extend_from_slice.ensures.items
    (runs_of _ _ _ _ _ _ _ c.as_slice.ensures.value (c.len-start.ensures ∙ long) c.run-used.ensures)).is_read

pub returns-clause-after : goal.returns-clause-after
returns-clause-after c =
    let long : vec_len c.self.inside.received ≡ length c.self.inside.received.items = search rules in
    (feeds_on c.self.inside.state c.run-used.new.state c.self.inside.received.items c.args.piece.now c.extend_from_slice.new.self.items c.run-used.result c.self.invariant
    (λ passed held g. c.is_open.ensures passed held g ∙ c.if-not-is_open.false) c.in_ok-extend_from_slice.ensures.items
    (runs_of _ _ _ _ _ _ _ c.as_slice.ensures.value (c.len-start.ensures ∙ long) c.run-used.ensures)).seen_is ∙ ap (λ (f : Feeding). fed f c.args.piece.now) c.self.view_is

pub returns-clause-ok : goal.returns-clause-ok
returns-clause-ok c =
    let long : vec_len c.self.inside.received ≡ length c.self.inside.received.items = search rules in
    let on = feeds_on c.self.inside.state c.run-used.new.state c.self.inside.received.items c.args.piece.now c.extend_from_slice.new.self.items c.run-used.result c.self.invariant
    (λ passed held g. c.is_open.ensures passed held g ∙ c.if-not-is_open.false) c.in_ok-extend_from_slice.ensures.items
    (runs_of _ _ _ _ _ _ _ c.as_slice.ensures.value (c.len-start.ensures ∙ long) c.run-used.ensures) in
    c.answer-2.ensures c.run-used.new.state.passed on.line (gathered_of c.run-used.new.state on.body) ∙ ap shown (sym on.reading)
    ∙ ap (λ (f : Feeding). shown (reading_from f.limit f.place c.args.piece.now false)) c.self.view_is
