-- What is sent is fed and stands behind what was sent before.
use Rattle.std.proofs.Common.{◌≡◌, false, is_err, sym, refl}
use Rattle.loop_wire.specs.Held.{sent_more}
use Rattle.loop_wire.proofs.Talks.{on_ok, kept_sent, kept_as, on_err, kept_sending, hears_stall, hears_none, hears_bytes}
use Rattle.loop_wire.proofs.link.send_to.Goals as goal

pub returns-then-stalls-clause-kept : goal.returns-then-stalls-clause-kept
returns-then-stalls-clause-kept g c = λ able. kept_sending _ _ _ _ _ _ _ c.stall.ensures.stalled c.requires.is_open c.requires.kept

pub returns-then-stalls-clause-hears : goal.returns-then-stalls-clause-hears
returns-then-stalls-clause-hears g c = hears_stall _ _ _ _ c.stall.ensures.stalled c.stall.ensures.later c.if-stalls.true

pub feed-requires : goal.feed-requires
feed-requires g c = c.requires.kept.talks.suits

pub returns-then-is_err-clause-kept : goal.returns-then-is_err-clause-kept
returns-then-is_err-clause-kept g c = λ able. absurd (able refl)

pub returns-then-is_err-clause-hears : goal.returns-then-is_err-clause-hears
returns-then-is_err-clause-hears g c = hears_none _ _ _ _ refl

pub returns-then-is_err-2-clause-kept : goal.returns-then-is_err-2-clause-kept
returns-then-is_err-2-clause-kept g c = λ able. absurd (able refl)

pub returns-then-is_err-2-clause-hears : goal.returns-then-is_err-2-clause-hears
returns-then-is_err-2-clause-hears g c = hears_none _ _ _ _ (on_err _ c.send.result c.send.ensures.err (sym c.if-is_err-2.ensures.value))

pub returns-clause-kept : goal.returns-clause-kept
returns-clause-kept g c = λ able.
    let left : c.send.new.self ≡ sent_more c.args.front.now c.args.held.now = on_ok _ c.send.result c.send.ensures.ok (sym c.if-is_err-2.ensures.value) in
    let fine : is_err c.feed.result ≡ false = sym c.if-is_err.ensures.value in
    kept_as _ _ _ _ _ _ _ left (kept_sent _ _ _ _ _ _ _ _ g.C.RespondsAt.lasts c.requires.kept.is_held c.requires.kept.talks
    (on_ok _ c.feed.result c.feed.ensures.feeds fine) (on_ok _ c.feed.result c.feed.ensures.suits fine))

pub returns-clause-hears : goal.returns-clause-hears
returns-clause-hears g c = hears_bytes _ _ _ _ _ (on_ok _ c.send.result c.send.ensures.ok (sym c.if-is_err-2.ensures.value)) refl
