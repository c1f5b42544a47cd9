-- Each row's flag says whether it is new; behind the last row all have theirs.
use Rattle.std.proofs.Common.{◌<◌, ◌≤◌, length, take, arith}
use Rattle.std.proofs.lemmas.Result.{IfOk-from_err}
use Rattle.row_algebra.specs.Finding.{same_key}
use Rattle.row_algebra.proofs.Onces.{news_step, news_all, keys_step}
use Rattle.row_algebra.proofs.distinct.are_new.Goals as goal

pub returns-in_err-flags : goal.returns-in_err-flags
returns-in_err-flags c = IfOk-from_err _ _ c.from_residual.ensures.0

pub returns-in_err-new : goal.returns-in_err-new
returns-in_err-new c = IfOk-from_err _ _ c.from_residual-in_err-new.ensures.0

pub returns-in_err-push : goal.returns-in_err-push
returns-in_err-push c = IfOk-from_err _ _ c.from_residual-in_err-push.ensures.0

pub loop-row-preserved : goal.loop-row-preserved
loop-row-preserved c =
    let names = c.args.names.now in
    let rows = c.args.rows.now in
    let i = c.loop-row.row-index in
    let below : i < length rows = c.loop-row-test.true in (
      news_step (same_key names) rows i c.row-item.result _ _ _ c.in_ok-new.new below c.row-item.is (c.in_ok-new.ensures.new (take i rows) c.loop-row.invariant.1) c.in_ok-push.ensures.items c.loop-row.invariant.0,
      keys_step names rows i c.row-item.result _ below c.row-item.is (c.in_ok-new.ensures.seen (take i rows) c.loop-row.invariant.1),
    )

pub returns : goal.returns
returns c =
    let past : length c.args.rows.now ≤ c.loop-row.row-index = omega (arith, c.loop-row-test.false) in
    news_all (same_key c.args.names.now) c.args.rows.now c.loop-row.row-index _ _ past c.loop-row.invariant.0
