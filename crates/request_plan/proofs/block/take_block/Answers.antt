use Rattle.std.proofs.Common.{◌≡◌, take, drop, ap, sym, ◌∙◌, arith}
use Rattle.request_plan.proofs.block.take_block.Goals as goal

pub loop-init : goal.loop-init
loop-init c = record {
  low = omega arith;
  high = c.requires.some;
  block = c.one-block.ensures ∙ sym (ap (λ rows. take 1 rows) c.in-Some.ensures.items);
  left = sym (ap (λ rows. drop 1 rows) c.in-Some.ensures.items);
}

pub returns-clause-block : goal.returns-clause-block
returns-clause-block c =
    let all : c.loop.counter ≡ c.args.count = omega (arith, c.loop.invariant.high, c.loop-test.false) in
    c.loop.invariant.block ∙ ap (λ n. take n c.args.rows.now.items) all

pub returns-clause-left : goal.returns-clause-left
returns-clause-left c =
    let all : c.loop.counter ≡ c.args.count = omega (arith, c.loop.invariant.high, c.loop-test.false) in
    c.loop.invariant.left ∙ ap (λ n. drop n c.args.rows.now.items) all
