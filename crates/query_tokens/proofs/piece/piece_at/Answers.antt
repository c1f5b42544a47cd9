use Rattle.std.proofs.Common.{◌≡◌, ◌+◌, ◌-◌, ℕ, false, sym, ap, ◌∙◌, take, drop, arith}
use Rattle.query_tokens.specs.Escapes.{has_good_escapes}
use Rattle.query_tokens.proofs.Pieces.{bad}
use Rattle.query_tokens.proofs.piece.piece_at.Goals as goal

pub returns-else-has_good_escapes-clause-piece : goal.returns-else-has_good_escapes-clause-piece
returns-else-has_good_escapes-clause-piece c =
    let rest = drop c.args.place c.args.chars.now in
    let same : c.args.place + c.in-Some.len - c.args.place ≡ c.in-Some.len = omega arith in
    let bad_there : has_good_escapes c.in-Some.kind (take c.in-Some.len rest) ≡ false = ap (λ (n : ℕ). has_good_escapes c.in-Some.kind (take n rest)) (sym same) ∙ sym c.has_good_escapes.ensures ∙ c.if-has_good_escapes.false in
    bad rest c.in-Some.kind c.in-Some.len c.in-Some.ensures.longest bad_there
