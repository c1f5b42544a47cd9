use Rattle.std.proofs.Common.{◌≡◌, drop, if◌then◌else◌}
use Rattle.query_tokens.specs.Escapes.{good_escapes}
use Rattle.query_tokens.proofs.escape.good_escapes.Given as goal

abbrev pub invariant-loop-i : goal.invariant-loop-i
invariant-loop-i l = good_escapes l.in_iri (if l.passed then 1 else 0) (drop l.i l.chars) ≡ good_escapes l.in_iri 0 l.chars
