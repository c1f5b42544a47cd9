use Rattle.std.proofs.Common.{◌≡◌, ◌≤◌, ◌+◌, drop, length}
use Rattle.pattern_parser.specs.Numbers.{AreNumbered}
use Rattle.pattern_parser.specs.Items.{names_after}
use Rattle.pattern_parser.proofs.item.names_of.Given as goal

abbrev pub invariant-loop-i : goal.invariant-loop-i
invariant-loop-i l = record {
  names : names_after l.names.texts.items l.skip (drop l.i l.words) ≡ names_after l.initial.names.texts.items 0 l.words;
  numbered : AreNumbered l.names;
  few : length l.names.texts.items ≤ length l.initial.names.texts.items + l.i;
}
