use Rattle.std.proofs.Common.{◌≡◌, drop}
use Rattle.pattern_parser.specs.declared.limit.Next.TheVariants.{Subject}
use Rattle.pattern_parser.specs.Limits.{count_after}
use Rattle.pattern_parser.proofs.limit.walked.Given as goal

abbrev pub invariant-loop-i : goal.invariant-loop-i
invariant-loop-i l = count_after l.walk.next l.walk.left l.walk.skip (drop l.i l.words) ≡ count_after Subject l.fn.left 0 l.words
