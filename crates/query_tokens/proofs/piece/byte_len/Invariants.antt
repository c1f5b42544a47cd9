use Rattle.query_tokens.proofs.Bytes.{Counted}
use Rattle.query_tokens.proofs.piece.byte_len.Given as goal

abbrev pub invariant-loop-c : goal.invariant-loop-c
invariant-loop-c l = Counted l.chars l.c-index l.len
