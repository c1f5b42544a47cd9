use Rattle.std.proofs.Common.{◌+◌, ℕ, sym, subst}
use Rattle.query_tokens.proofs.Bytes.{Counted, count_more}
use Rattle.query_tokens.proofs.piece.byte_len.Goals as goal

pub loop-c-preserved : goal.loop-c-preserved
loop-c-preserved c =
    let xs = c.args.chars.now in
    let v = c.len_utf8-len.ensures.value in
    let more = count_more xs c.loop-c.c-index c.loop-c.len c.c-item.result c.loop-c-test.true c.c-item.is c.loop-c.invariant in
    subst (λ (n : ℕ). Counted xs (c.loop-c.c-index + 1) (c.loop-c.len + n)) (sym v) more
