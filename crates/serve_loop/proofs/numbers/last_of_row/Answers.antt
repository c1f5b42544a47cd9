-- The row reaches the last link of all, or begins with the oldest link there.
use Rattle.std.proofs.Common.{arith}
use Rattle.serve_loop.proofs.numbers.last_of_row.Goals as goal

pub returns-then-beyond-far-clause-narrow : goal.returns-then-beyond-far-clause-narrow
returns-then-beyond-far-clause-narrow g c = record {
  low = c.args.first;
  within = λ key l found above below. (
    above,
    (let all = c.requires.all key l found in let far = c.if-beyond-far.true in omega (arith, all, far)),
  );
}

pub returns-clause-narrow : goal.returns-clause-narrow
returns-clause-narrow g c = record {
  low = c.oldest_from.result;
  within = λ key l found above below. (c.oldest_from.ensures.oldest key l found above, c.row_end.ensures.narrow l.link (c.requires.all key l found) below);
}

pub returns-clause-wide : goal.returns-clause-wide
returns-clause-wide g c = λ few. let w = c.row_end.ensures.wide few in let n = c.oldest_from.ensures.next in omega (arith, w, n)
