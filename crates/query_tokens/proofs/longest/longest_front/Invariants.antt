use Rattle.query_tokens.specs.Names.{IsRun}
use Rattle.query_tokens.proofs.Best.{Kept}
use Rattle.query_tokens.proofs.longest.longest_front.Given as goal

abbrev pub invariant-loop-i : goal.invariant-loop-i
invariant-loop-i l = record {
  run : IsRun l.chars l.run;
  kept : Kept l.rest l.i l.state l.best;
}
