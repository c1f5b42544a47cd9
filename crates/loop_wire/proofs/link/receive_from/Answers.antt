-- What was received and what is pending is a front of what is owed.
use Rattle.std.proofs.Common.{ℕ, ◌≡◌, ◌<◌, ◌==◌, false, List, [], length, is_err, ap, sym, ◌∙◌, refl}
use Rattle.list_laws.proofs.Lists.{none_there}
use Rattle.loop_wire.specs.Held.{received_more}
use Rattle.loop_wire.proofs.Talks.{on_ok, some_there, pends, all_received, is_left, gives_nothing, gives_stall, gives_bytes, kept_nothing, kept_stall, kept_received, kept_as, on_err, gives_none}
use Rattle.loop_wire.proofs.link.receive_from.Goals as goal

pub prepare-requires : goal.prepare-requires
prepare-requires g c = c.requires.kept.talks.suits

pub returns-then-is_err-clause-kept : goal.returns-then-is_err-clause-kept
returns-then-is_err-clause-kept g c = λ able. absurd (able refl)

pub returns-then-is_err-clause-gives : goal.returns-then-is_err-clause-gives
returns-then-is_err-clause-gives g c = gives_none _ _ _ _ _ _ refl

pub returns-then-is_empty-clause-kept : goal.returns-then-is_empty-clause-kept
returns-then-is_empty-clause-kept g c = λ able.
    let fine : is_err c.prepare.result ≡ false = sym c.if-is_err.ensures.value in
    let stays = on_ok _ c.prepare.result c.prepare.ensures.stays fine in
    let none : g.C.Converses.kind.pending c.prepare.new.connection ≡ [] = none_there _ c.is_empty.result (c.is_empty.ensures ∙ ap (λ (xs : List ℕ). length xs == 0) c.pending.ensures) c.if-is_empty.true in
    let over = all_received _ _ _ _ _ _ _ c.requires.version g.met.C.Converses.whole g.met.C.RespondsAt.is_response c.requires.kept.talks stays none
    ((on_ok _ c.prepare.result c.prepare.ensures.owes fine) none) (on_ok _ c.prepare.result c.prepare.ensures.wants fine) in
    kept_nothing _ _ _ _ _ _ c.closing.result _ _ c.receive_nothing.ensures.left c.requires.is_open over c.requires.kept.is_held c.requires.kept.talks stays (on_ok _ c.prepare.result c.prepare.ensures.suits fine)

pub returns-then-is_empty-clause-gives : goal.returns-then-is_empty-clause-gives
returns-then-is_empty-clause-gives g c =
    let fine : is_err c.prepare.result ≡ false = sym c.if-is_err.ensures.value in
    let stays = on_ok _ c.prepare.result c.prepare.ensures.stays fine in
    let none : g.C.Converses.kind.pending c.prepare.new.connection ≡ [] = none_there _ c.is_empty.result (c.is_empty.ensures ∙ ap (λ (xs : List ℕ). length xs == 0) c.pending.ensures) c.if-is_empty.true in
    let over = all_received _ _ _ _ _ _ _ c.requires.version g.met.C.Converses.whole g.met.C.RespondsAt.is_response c.requires.kept.talks stays none
    ((on_ok _ c.prepare.result c.prepare.ensures.owes fine) none) (on_ok _ c.prepare.result c.prepare.ensures.wants fine) in
    gives_nothing _ _ _ c.closing.result _ _ _ _ c.receive_nothing.ensures.result c.receive_nothing.ensures.left c.receive_nothing.ensures.later over

pub returns-then-stalls-clause-kept : goal.returns-then-stalls-clause-kept
returns-then-stalls-clause-kept g c = λ able.
    let fine : is_err c.prepare.result ≡ false = sym c.if-is_err.ensures.value in
    let stays = on_ok _ c.prepare.result c.prepare.ensures.stays fine in
    let front = pends _ _ _ _ _ _ _ c.requires.version g.met.C.RespondsAt.begins_at c.requires.kept.talks stays in
    let some : 0 < length (g.C.Converses.kind.pending c.prepare.new.connection) = some_there _ c.is_empty.result (c.is_empty.ensures ∙ ap (λ (xs : List ℕ). length xs == 0) c.pending.ensures) c.if-is_empty.false in
    kept_stall _ _ _ _ _ _ _ _ c.stall.ensures.stalled c.requires.is_open (is_left _ _ _ _ c.requires.kept.is_held.within front.1 some)
    c.requires.kept.is_held c.requires.kept.talks stays (on_ok _ c.prepare.result c.prepare.ensures.suits fine)

pub returns-then-stalls-clause-gives : goal.returns-then-stalls-clause-gives
returns-then-stalls-clause-gives g c =
    let fine : is_err c.prepare.result ≡ false = sym c.if-is_err.ensures.value in
    let stays = on_ok _ c.prepare.result c.prepare.ensures.stays fine in
    let front = pends _ _ _ _ _ _ _ c.requires.version g.met.C.RespondsAt.begins_at c.requires.kept.talks stays in
    let some : 0 < length (g.C.Converses.kind.pending c.prepare.new.connection) = some_there _ c.is_empty.result (c.is_empty.ensures ∙ ap (λ (xs : List ℕ). length xs == 0) c.pending.ensures) c.if-is_empty.false in
    gives_stall _ _ _ _ _ _ c.stall.ensures.stalled c.stall.ensures.later c.if-stalls.true (is_left _ _ _ _ c.requires.kept.is_held.within front.1 some)

pub hand_out-n-requires-clause-some : goal.hand_out-n-requires-clause-some
hand_out-n-requires-clause-some g c = some_there _ c.is_empty.result (c.is_empty.ensures ∙ ap (λ (xs : List ℕ). length xs == 0) c.pending.ensures) c.if-is_empty.false

pub hand_out-n-requires-clause-most : goal.hand_out-n-requires-clause-most
hand_out-n-requires-clause-most g c = c.requires.most

pub hand_out-n-requires-clause-room : goal.hand_out-n-requires-clause-room
hand_out-n-requires-clause-room g c = c.requires.room

pub returns-then-is_err-2-clause-kept : goal.returns-then-is_err-2-clause-kept
returns-then-is_err-2-clause-kept g c = λ able. absurd (able refl)

pub returns-then-is_err-2-clause-gives : goal.returns-then-is_err-2-clause-gives
returns-then-is_err-2-clause-gives g c = gives_none _ _ _ _ _ _ (on_err _ c.receive.result c.receive.ensures.err (sym c.if-is_err-2.ensures.value))

pub returns-clause-kept : goal.returns-clause-kept
returns-clause-kept g c = λ able.
    let fine : is_err c.prepare.result ≡ false = sym c.if-is_err.ensures.value in
    let stays = on_ok _ c.prepare.result c.prepare.ensures.stays fine in
    let front = pends _ _ _ _ _ _ _ c.requires.version g.met.C.RespondsAt.begins_at c.requires.kept.talks stays in
    let left : c.receive.new.self ≡ received_more c.hand_out-n.result c.args.held.now = on_ok _ c.receive.result c.receive.ensures.ok (sym c.if-is_err-2.ensures.value) in
    kept_as _ _ _ _ _ _ _ left (kept_received _ _ _ _ _ _ front.0 _ _ _ c.requires.kept.is_held c.requires.kept.talks stays front.1 c.hand_out-n.ensures.pending
    (c.hand_out-n.ensures.takes _) (c.hand_out-n.ensures.suits _ (on_ok _ c.prepare.result c.prepare.ensures.suits fine)))

pub returns-clause-gives : goal.returns-clause-gives
returns-clause-gives g c =
    let fine : is_err c.prepare.result ≡ false = sym c.if-is_err.ensures.value in
    let stays = on_ok _ c.prepare.result c.prepare.ensures.stays fine in
    let front = pends _ _ _ _ _ _ _ c.requires.version g.met.C.RespondsAt.begins_at c.requires.kept.talks stays in
    let left : c.receive.new.self ≡ received_more c.hand_out-n.result c.args.held.now = on_ok _ c.receive.result c.receive.ensures.ok (sym c.if-is_err-2.ensures.value) in
    gives_bytes _ _ _ _ _ (g.C.Converses.kind.pending c.prepare.new.connection) front.0 _ _ c.requires.kept.is_held left c.hand_out-n.ensures.moved c.hand_out-n.ensures.most c.hand_out-n.ensures.within c.hand_out-n.ensures.pending c.hand_out-n.ensures.bytes front.1
