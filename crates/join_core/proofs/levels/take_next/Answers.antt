-- What is taken is what the page made of the node that waited.
use Rattle.std.proofs.Common.{refl}
use Rattle.std.proofs.lemmas.Result.{IfOk-from_err, on_ok_weaker}
use Rattle.list_laws.proofs.Results.{any_err}
use Rattle.join_core.proofs.Plain.{found-level, takes-as}
use Rattle.join_core.proofs.levels.take_next.Goals as goal

pub next_page-requires : goal.next_page-requires
next_page-requires c = (c.requires.waiter, found-level c.args.levels.now.items c.args.place.depth c.args.place.key c.index.result.now c.requires.waiter c.requires.deep c.index.ensures c.requires.found)

pub returns-in_err-made-clause-taken : goal.returns-in_err-made-clause-taken
returns-in_err-made-clause-taken c = λ n e. IfOk-from_err _ _ c.from_residual.ensures.0

pub returns-in_err-made-clause-failed : goal.returns-in_err-made-clause-failed
returns-in_err-made-clause-failed c = any_err c.from_residual.result _ refl

pub returns-in_err-made-clause-failed_rows : goal.returns-in_err-made-clause-failed_rows
returns-in_err-made-clause-failed_rows c = any_err c.from_residual.result _ refl

pub take_made-requires-clause-deep : goal.take_made-requires-clause-deep
take_made-requires-clause-deep c = c.requires.deep

pub take_made-requires-clause-idle : goal.take_made-requires-clause-idle
take_made-requires-clause-idle c = c.in_ok-made.ensures.idle

pub returns-clause-taken : goal.returns-clause-taken
returns-clause-taken c = λ n g.
    let e = found-level c.args.levels.now.items c.args.place.depth c.args.place.key c.index.result.now n c.requires.deep c.index.ensures g in
    on_ok_weaker c.take_made.result (λ t. takes-as _ _ _ _ _ _ _ _ _ _ _ _ (c.in_ok-made.ensures.opened n e) (c.in_ok-made.ensures.rows n e) (c.in_ok-made.ensures.after n e) t) c.take_made.ensures.done

pub returns-clause-failed : goal.returns-clause-failed
returns-clause-failed c = c.take_made.ensures.failed

pub returns-clause-failed_rows : goal.returns-clause-failed_rows
returns-clause-failed_rows c = c.take_made.ensures.failed_rows
