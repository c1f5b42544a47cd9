use Rattle.std.proofs.Common.{◌≡◌, ◌++◌, drop}
use Rattle.query_words.specs.Words.{kinds_of}
use Rattle.query_words.proofs.word.kinds_of.Given as goal

abbrev pub invariant-loop-word : goal.invariant-loop-word
invariant-loop-word l = l.kinds.items ++ kinds_of (drop l.word-index l.words) ≡ kinds_of l.words
