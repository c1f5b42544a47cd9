use Rattle.query_words.proofs.Chars.{SameSoFar}
use Rattle.query_words.proofs.text.same_word.Given as goal

abbrev pub invariant-loop-i : goal.invariant-loop-i
invariant-loop-i l = SameSoFar l.word l.text l.i
