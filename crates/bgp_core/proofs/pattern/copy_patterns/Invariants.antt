use Rattle.std.proofs.Common.{◌≡◌, take}
use Rattle.bgp_core.proofs.pattern.copy_patterns.Given as goal

abbrev pub invariant-loop-pattern : goal.invariant-loop-pattern
invariant-loop-pattern l = l.copy.items ≡ take l.pattern-index l.patterns
