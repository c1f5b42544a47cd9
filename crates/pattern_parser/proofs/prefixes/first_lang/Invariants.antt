use Rattle.std.proofs.Common.{◌≡◌, drop}
use Rattle.std.specs.BTreeMap.{get_by_text}
use Rattle.pattern_parser.specs.Prefixes.{lang_at}
use Rattle.pattern_parser.proofs.prefixes.first_lang.Given as goal

abbrev pub invariant-loop-i : goal.invariant-loop-i
invariant-loop-i l = lang_at (λ q. get_by_text l.prefixes q) (drop l.i l.words) ≡ lang_at (λ q. get_by_text l.prefixes q) l.words
