-- Digits that follow make a number no smaller.
use Rattle.std.proofs.Common.{ℕ, ◌+◌, ◌-◌, ◌*◌, ◌≤◌, List, [], ◌∷◌, arith}
use Rattle.command_words.specs.Commands.{number_after}

pub number_after_least : (n : ℕ) (digits : List ℕ) → n ≤ number_after n digits
number_after_least n [] = omega arith
number_after_least n (digit ∷ digits) = omega (arith, number_after_least (n * 10 + (digit - 48)) digits)
