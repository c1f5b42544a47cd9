-- Each link that was given is one more.
use Rattle.std.proofs.Common.{◌∙◌, ap, arith}
use Rattle.std.specs.Prelude.{is_some}
use Rattle.std.proofs.lemmas.Result.{err_from_is_err_and}
use Rattle.serve_loop.proofs.ServiceLemmas.{fault_as}
use Rattle.serve_loop.proofs.GreetLemmas.{so_far_none, so_far_given, so_far_all, so_far_fails, accepted_is, one_more_live, enough_live}
use Rattle.serve_loop.proofs.turn.greet_all.Goals as goal

pub loop-greeted-init : goal.loop-greeted-init
loop-greeted-init g c = record {
  listens = c.requires.listens;
  few = c.requires.few;
  suits = c.requires.suits;
  len = omega arith;
  so_far = so_far_none _ _ _;
}

pub loop-greeted-preserved : goal.loop-greeted-preserved
loop-greeted-preserved g c = record {
  listens = ap is_some c.in_ok-accepted.ensures.alone.place ∙ c.loop-greeted.invariant.listens;
  few = c.in_ok-accepted.ensures.few;
  suits = c.in_ok-accepted.ensures.suits;
  len = one_more_live _ _ _ _ _ _ _ _ _ _ c.if-not-accepted.false c.in_ok-accepted.ensures.welcomes c.loop-greeted.invariant.len;
  so_far = so_far_given _ _ _ _ _ _ _ c.loop-greeted.invariant.so_far (accepted_is _ _ _ _ _ _ _ _ _ c.if-not-accepted.false c.in_ok-accepted.ensures.welcomes);
}

pub returns-then-not-accepted-clause-greets : goal.returns-then-not-accepted-clause-greets
returns-then-not-accepted-clause-greets g c = so_far_all _ _ _ _ _ _ _ c.loop-greeted.invariant.so_far (accepted_is _ _ _ _ _ _ _ _ _ c.if-not-accepted.true c.in_ok-accepted.ensures.welcomes)

pub returns-in_err-accepted-clause-fails : goal.returns-in_err-accepted-clause-fails
returns-in_err-accepted-clause-fails g c =
    let p = err_from_is_err_and c.from_residual.result c.from_residual.ensures.1 in
    fault_as _ _ p.0 _ p.1 p.2 (so_far_fails _ _ _ _ _ _ _ _ c.loop-greeted.invariant.so_far c.in_err-accepted.ensures.err c.in_err-accepted.ensures.len c.in_err-accepted.ensures.fails)

pub returns-clause-greets : goal.returns-clause-greets
returns-clause-greets g c =
    let e = c.loop-greeted-test.false in
    let n = c.loop-greeted.invariant.len in
    enough_live _ _ _ _ _ c.loop-greeted.invariant.so_far (omega (arith, e, n))
