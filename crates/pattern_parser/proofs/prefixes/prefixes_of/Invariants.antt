use Rattle.std.proofs.Common.{◌≡◌, ℕ, List, drop}
use Rattle.std.specs.BTreeMap.{get_by_text}
use Rattle.pattern_parser.specs.Prefixes.{or_else, iri_of}
use Rattle.pattern_parser.proofs.prefixes.prefixes_of.Given as goal

abbrev pub invariant-loop-i : goal.invariant-loop-i
invariant-loop-i l = (q : List ℕ) → or_else (iri_of (drop l.i l.words) q) (get_by_text l.prefixes q) ≡ iri_of l.words q
