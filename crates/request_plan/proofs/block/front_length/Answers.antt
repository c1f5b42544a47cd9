use Rattle.std.proofs.Common.{◌≡◌, ◌≤◌, length, arith}
use Rattle.std.proofs.lemmas.Result.{IfOk-weaker}
use Rattle.request_plan.specs.Blocks.{form_cut, longest_front}
use Rattle.request_plan.proofs.Cuts.{front-some, front-below}
use Rattle.request_plan.proofs.block.front_length.Goals as goal

pub returns-clause-some : goal.returns-clause-some
returns-clause-some c =
    let cut = form_cut c.args.form.now c.args.most in
    let some = front-some cut c.args.rest.now c.args.rows.now c.min-most.result in
    IfOk-weaker c.fitting_from.result (λ k. k ≡ longest_front cut c.args.rest.now c.args.rows.now c.min-most.result) (λ k. 1 ≤ k) (λ k e. omega (arith, some, e)) (c.fitting_from.ensures.front c.args.most)

pub returns-clause-within : goal.returns-clause-within
returns-clause-within c =
    let cut = form_cut c.args.form.now c.args.most in
    let most = c.min-most.ensures in
    let below = front-below cut c.args.rest.now c.args.rows.now c.min-most.result (length c.args.rows.now) (omega (arith, most)) c.requires.some in
    IfOk-weaker c.fitting_from.result (λ k. k ≡ longest_front cut c.args.rest.now c.args.rows.now c.min-most.result) (λ k. k ≤ length c.args.rows.now) (λ k e. omega (arith, below, e)) (c.fitting_from.ensures.front c.args.most)
