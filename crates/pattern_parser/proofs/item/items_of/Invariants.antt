use Rattle.std.proofs.Common.{◌≡◌, ◌≤◌, ◌+◌, ◌++◌, drop, length}
use Rattle.std.specs.BTreeMap.{get_by_text}
use Rattle.pattern_parser.specs.Numbers.{AreNumbered}
use Rattle.pattern_parser.specs.Items.{items_after, names_after}
use Rattle.pattern_parser.proofs.item.items_of.Given as goal

abbrev pub invariant-loop-i : goal.invariant-loop-i
invariant-loop-i l = record {
  items : l.items.items ++ items_after (λ q. get_by_text l.prefixes q) l.names.texts.items l.skip (drop l.i l.words) ≡ items_after (λ q. get_by_text l.prefixes q) l.initial.names.texts.items 0 l.words;
  names : names_after l.names.texts.items l.skip (drop l.i l.words) ≡ names_after l.initial.names.texts.items 0 l.words;
  numbered : AreNumbered l.names;
  few : length l.names.texts.items ≤ length l.initial.names.texts.items + l.i;
}
