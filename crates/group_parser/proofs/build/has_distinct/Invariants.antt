use Rattle.std.proofs.Common.{◌≡◌, drop}
use Rattle.group_parser.specs.Texts.{has_distinct}
use Rattle.group_parser.proofs.build.has_distinct.Given as goal

abbrev pub invariant-loop-word : goal.invariant-loop-word
invariant-loop-word l = has_distinct (drop l.word-index l.words) ≡ has_distinct l.words
