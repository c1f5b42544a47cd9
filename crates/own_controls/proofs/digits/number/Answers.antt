use Rattle.std.proofs.Common.{◌≡◌, ℕ, List, length, get_or, subst}
use Rattle.own_controls.proofs.Pieces.{number_digits, number_few}
use Rattle.own_controls.proofs.digits.number.Goals as goal

pub returns-clause-digits : goal.returns-clause-digits
returns-clause-digits c =
    let plain = subst (λ (l : List ℕ). get_or l 0 0 ≡ 48 → length l ≡ 1) c.as_bytes.ensures.value (c.is_plain.ensures c.if-not-is_plain.false) in
    number_digits c.args.digits.now c.number_of_digits.result plain c.number_of_digits.ensures

pub returns-clause-few : goal.returns-clause-few
returns-clause-few c =
    let plain = subst (λ (l : List ℕ). get_or l 0 0 ≡ 48 → length l ≡ 1) c.as_bytes.ensures.value (c.is_plain.ensures c.if-not-is_plain.false) in
    number_few c.args.digits.now c.number_of_digits.result plain c.number_of_digits.ensures
