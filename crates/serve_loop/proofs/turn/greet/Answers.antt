-- A link is asked for where fewer are live, and its connection is kept.
use Rattle.std.proofs.Common.{refl, ap, inl, inr, Err, arith}
use Rattle.serve_loop.proofs.AnswerLemmas.{on_ok}
use Rattle.serve_loop.proofs.PreparedLemmas.{ok_when}
use Rattle.serve_loop.proofs.CallLemmas.{alone_none}
use Rattle.serve_loop.proofs.AskedLemmas.{none_given}
use Rattle.serve_loop.proofs.AcceptLemmas.{if_some, if_none, alone_accepts, fails_still, kept_at, kept_len, kept_few, suits_kept, suits_given, welcomes_none, welcomes_given}
use Rattle.serve_loop.proofs.turn.greet.Goals as goal

pub returns-then-len-ge-MOST_LIVE-clause-few : goal.returns-then-len-ge-MOST_LIVE-clause-few
returns-then-len-ge-MOST_LIVE-clause-few g c = c.requires.few

pub returns-then-len-ge-MOST_LIVE-clause-suits : goal.returns-then-len-ge-MOST_LIVE-clause-suits
returns-then-len-ge-MOST_LIVE-clause-suits g c = c.requires.suits

pub returns-then-len-ge-MOST_LIVE-clause-welcomes : goal.returns-then-len-ge-MOST_LIVE-clause-welcomes
returns-then-len-ge-MOST_LIVE-clause-welcomes g c = welcomes_none _ _ _ _ _ _ _ (λ k. refl) refl (none_given _) refl (alone_none _) refl (inl (omega (arith, c.if-len-ge-MOST_LIVE.true, c.len.ensures)))

pub returns-then-len-ge-MOST_LIVE-clause-alone : goal.returns-then-len-ge-MOST_LIVE-clause-alone
returns-then-len-ge-MOST_LIVE-clause-alone g c = alone_none _

pub returns-then-len-ge-MOST_LIVE-clause-waits : goal.returns-then-len-ge-MOST_LIVE-clause-waits
returns-then-len-ge-MOST_LIVE-clause-waits g c = refl

pub returns-then-is_err-clause-few : goal.returns-then-is_err-clause-few
returns-then-is_err-clause-few g c = kept_few c.args.live.now c.reserve.new.self _ c.reserve.ensures.rest_kept c.requires.few

pub returns-then-is_err-clause-suits : goal.returns-then-is_err-clause-suits
returns-then-is_err-clause-suits g c = suits_kept _ _ c.args.live.now c.reserve.new.self _ _ c.reserve.ensures.rest_kept (none_given _) c.requires.suits

pub returns-then-is_err-clause-err : goal.returns-then-is_err-clause-err
returns-then-is_err-clause-err g c = kept_at c.args.live.now c.reserve.new.self c.reserve.ensures.rest_kept

pub returns-then-is_err-clause-len : goal.returns-then-is_err-clause-len
returns-then-is_err-clause-len g c = kept_len c.args.live.now c.reserve.new.self c.reserve.ensures.rest_kept

pub returns-then-is_err-clause-fails : goal.returns-then-is_err-clause-fails
returns-then-is_err-clause-fails g c = fails_still _

pub returns-then-is_err-clause-alone : goal.returns-then-is_err-clause-alone
returns-then-is_err-clause-alone g c = alone_none _

pub returns-then-is_err-clause-waits : goal.returns-then-is_err-clause-waits
returns-then-is_err-clause-waits g c = refl

pub accept-requires : goal.accept-requires
accept-requires g c = c.requires.listens

pub insert_reserved-requires : goal.insert_reserved-requires
insert_reserved-requires g c = on_ok c.reserve.result _ c.reserve.ensures.room (ok_when c.reserve.result c.if-is_err.ensures.value)

pub returns-in-Ok-Some-clause-few : goal.returns-in-Ok-Some-clause-few
returns-in-Ok-Some-clause-few g c = omega (arith, c.if-len-ge-MOST_LIVE.false, c.len.ensures, c.insert_reserved.ensures.len, kept_len c.args.live.now c.reserve.new.self c.reserve.ensures.rest_kept)

pub returns-in-Ok-Some-clause-suits : goal.returns-in-Ok-Some-clause-suits
returns-in-Ok-Some-clause-suits g c = suits_given _ _ c.args.live.now c.reserve.new.self c.insert_reserved.new.self _ _ _ _ c.reserve.ensures.rest_kept c.insert_reserved.ensures.updates
    (if_some _ _ _ c.in-Ok-Some.field-0-is c.in-Ok-Some.ensures.given) (c.new.ensures.suits c.args.server.now) c.requires.suits

pub returns-in-Ok-Some-clause-welcomes : goal.returns-in-Ok-Some-clause-welcomes
returns-in-Ok-Some-clause-welcomes g c = welcomes_given _ c.args.live.now c.reserve.new.self c.insert_reserved.new.self _ _ _ _ c.reserve.ensures.rest_kept c.insert_reserved.ensures.was_vacant c.insert_reserved.ensures.updates
    c.insert_reserved.ensures.len c.new.ensures.opens (if_some _ _ _ c.in-Ok-Some.field-0-is c.in-Ok-Some.ensures.given) c.accept.ensures.only.waits (alone_accepts _ _ c.accept.ensures.only c.accept.ensures.door.later) c.in-Ok-Some.ensures.door.success

pub returns-in-Ok-Some-clause-alone : goal.returns-in-Ok-Some-clause-alone
returns-in-Ok-Some-clause-alone g c = alone_accepts _ _ c.accept.ensures.only c.accept.ensures.door.later

pub returns-in-Ok-Some-clause-waits : goal.returns-in-Ok-Some-clause-waits
returns-in-Ok-Some-clause-waits g c = c.accept.ensures.only.waits

pub returns-in-Ok-None-clause-few : goal.returns-in-Ok-None-clause-few
returns-in-Ok-None-clause-few g c = kept_few c.args.live.now c.reserve.new.self _ c.reserve.ensures.rest_kept c.requires.few

pub returns-in-Ok-None-clause-suits : goal.returns-in-Ok-None-clause-suits
returns-in-Ok-None-clause-suits g c = suits_kept _ _ c.args.live.now c.reserve.new.self _ _ c.reserve.ensures.rest_kept (if_none _ _ c.in-Ok-None.field-0-is c.in-Ok-None.ensures.none) c.requires.suits

pub returns-in-Ok-None-clause-welcomes : goal.returns-in-Ok-None-clause-welcomes
returns-in-Ok-None-clause-welcomes g c = welcomes_none _ _ _ _ _ _ _ (kept_at c.args.live.now c.reserve.new.self c.reserve.ensures.rest_kept) (kept_len c.args.live.now c.reserve.new.self c.reserve.ensures.rest_kept) (if_none _ _ c.in-Ok-None.field-0-is c.in-Ok-None.ensures.none) c.accept.ensures.only.waits
    (alone_accepts _ _ c.accept.ensures.only c.accept.ensures.door.later) c.in-Ok-None.ensures.door.success (inr (if_none _ _ c.in-Ok-None.field-0-is c.in-Ok-None.ensures.stalled))

pub returns-in-Ok-None-clause-alone : goal.returns-in-Ok-None-clause-alone
returns-in-Ok-None-clause-alone g c = alone_accepts _ _ c.accept.ensures.only c.accept.ensures.door.later

pub returns-in-Ok-None-clause-waits : goal.returns-in-Ok-None-clause-waits
returns-in-Ok-None-clause-waits g c = c.accept.ensures.only.waits

pub returns-in-Err-Failed-clause-few : goal.returns-in-Err-Failed-clause-few
returns-in-Err-Failed-clause-few g c = kept_few c.args.live.now c.reserve.new.self _ c.reserve.ensures.rest_kept c.requires.few

pub returns-in-Err-Failed-clause-suits : goal.returns-in-Err-Failed-clause-suits
returns-in-Err-Failed-clause-suits g c = suits_kept _ _ c.args.live.now c.reserve.new.self _ _ c.reserve.ensures.rest_kept c.in-Err-Failed.ensures.err c.requires.suits

pub returns-in-Err-Failed-clause-err : goal.returns-in-Err-Failed-clause-err
returns-in-Err-Failed-clause-err g c = kept_at c.args.live.now c.reserve.new.self c.reserve.ensures.rest_kept

pub returns-in-Err-Failed-clause-len : goal.returns-in-Err-Failed-clause-len
returns-in-Err-Failed-clause-len g c = kept_len c.args.live.now c.reserve.new.self c.reserve.ensures.rest_kept

pub returns-in-Err-Failed-clause-fails : goal.returns-in-Err-Failed-clause-fails
returns-in-Err-Failed-clause-fails g c = record {
  cause = record { faults = c.in-Err-Failed.ensures.cause.failed (ap Err c.in-Err-Failed.field-0-is); door = c.in-Err-Failed.ensures.door.failed (ap Err c.in-Err-Failed.field-0-is) };
  none = c.in-Err-Failed.ensures.err;
  waits = c.accept.ensures.only.waits;
  alone = alone_accepts _ _ c.accept.ensures.only c.accept.ensures.door.later;
}

pub returns-in-Err-Failed-clause-alone : goal.returns-in-Err-Failed-clause-alone
returns-in-Err-Failed-clause-alone g c = alone_accepts _ _ c.accept.ensures.only c.accept.ensures.door.later

pub returns-in-Err-Failed-clause-waits : goal.returns-in-Err-Failed-clause-waits
returns-in-Err-Failed-clause-waits g c = c.accept.ensures.only.waits

pub returns-in-Err-OutOfMemory-clause-few : goal.returns-in-Err-OutOfMemory-clause-few
returns-in-Err-OutOfMemory-clause-few g c = kept_few c.args.live.now c.reserve.new.self _ c.reserve.ensures.rest_kept c.requires.few

pub returns-in-Err-OutOfMemory-clause-suits : goal.returns-in-Err-OutOfMemory-clause-suits
returns-in-Err-OutOfMemory-clause-suits g c = suits_kept _ _ c.args.live.now c.reserve.new.self _ _ c.reserve.ensures.rest_kept c.in-Err-OutOfMemory.ensures.err c.requires.suits

pub returns-in-Err-OutOfMemory-clause-err : goal.returns-in-Err-OutOfMemory-clause-err
returns-in-Err-OutOfMemory-clause-err g c = kept_at c.args.live.now c.reserve.new.self c.reserve.ensures.rest_kept

pub returns-in-Err-OutOfMemory-clause-len : goal.returns-in-Err-OutOfMemory-clause-len
returns-in-Err-OutOfMemory-clause-len g c = kept_len c.args.live.now c.reserve.new.self c.reserve.ensures.rest_kept

pub returns-in-Err-OutOfMemory-clause-fails : goal.returns-in-Err-OutOfMemory-clause-fails
returns-in-Err-OutOfMemory-clause-fails g c = record {
  cause = (c.in-Err-OutOfMemory.ensures.cause.memory (ap Err c.in-Err-OutOfMemory.field-0-is), c.in-Err-OutOfMemory.ensures.door.memory (ap Err c.in-Err-OutOfMemory.field-0-is));
  none = c.in-Err-OutOfMemory.ensures.err;
  waits = c.accept.ensures.only.waits;
  alone = alone_accepts _ _ c.accept.ensures.only c.accept.ensures.door.later;
}

pub returns-in-Err-OutOfMemory-clause-alone : goal.returns-in-Err-OutOfMemory-clause-alone
returns-in-Err-OutOfMemory-clause-alone g c = alone_accepts _ _ c.accept.ensures.only c.accept.ensures.door.later

pub returns-in-Err-OutOfMemory-clause-waits : goal.returns-in-Err-OutOfMemory-clause-waits
returns-in-Err-OutOfMemory-clause-waits g c = c.accept.ensures.only.waits
