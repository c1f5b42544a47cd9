use Rattle.std.proofs.Common.{◌≡◌, ◌++◌, drop}
use Rattle.query_words.specs.Words.{words_of}
use Rattle.query_words.proofs.word.words_of.Given as goal

abbrev pub invariant-loop-piece : goal.invariant-loop-piece
invariant-loop-piece l = l.words.items ++ words_of l.chars (drop l.piece-index l.pieces) ≡ words_of l.chars l.pieces
