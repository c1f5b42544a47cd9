use Rattle.std.proofs.Common.{◌≡◌, ◌≤◌, ◌+◌, length}
use Rattle.std.specs.BTreeMap.{get_by_text}
use Rattle.pattern_parser.specs.Numbers.{AreNumbered}
use Rattle.group_parser.specs.Walks.{walked_from, whole_walk}
use Rattle.group_parser.proofs.walk.steps_of.Given as goal

abbrev pub invariant-loop-i : goal.invariant-loop-i
invariant-loop-i l = record {
  from : l.from ≤ l.i;
  walk : walked_from (λ q. get_by_text l.prefixes q) l.names.texts.items l.walk l.from l.i l.words ≡ whole_walk (λ q. get_by_text l.prefixes q) l.initial.names.texts.items l.words;
  numbered : AreNumbered l.names;
  few : length l.names.texts.items ≤ length l.initial.names.texts.items + l.from;
}
