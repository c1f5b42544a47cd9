use Rattle.std.proofs.Common.{◌≡◌, ◌+◌, drop}
use Rattle.query_words.specs.Texts.{colon}
use Rattle.query_words.proofs.text.colon.Given as goal

abbrev pub invariant-loop-i : goal.invariant-loop-i
invariant-loop-i l = l.i + colon (drop l.i l.chars) ≡ colon l.chars
