use Rattle.std.proofs.Common.{◌≡◌, ◌≤◌, ◌<◌, ℕ, drop, false}
use Rattle.query_tokens.specs.Names.{leads}
use Rattle.query_tokens.proofs.ahead.run_from.Given as goal

abbrev pub invariant-loop-i : goal.invariant-loop-i
invariant-loop-i l = record {
  all : (q : ℕ) → l.from ≤ q → q < l.i → leads false (drop q l.chars) ≡ leads l.dot (drop l.i l.chars);
  here : leads l.dot (drop l.i l.chars) ≡ leads false (drop l.from l.chars);
}
