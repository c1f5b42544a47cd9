use Rattle.std.proofs.Common.{◌≡◌, ◌≤◌, drop}
use Rattle.query_tokens.specs.Escapes.{hex_after}
use Rattle.query_tokens.proofs.escape.hex_value.Given as goal

abbrev pub invariant-loop-c : goal.invariant-loop-c
invariant-loop-c l = (l.n ≤ 0x110000) × (hex_after l.n (drop l.c-index l.digits) ≡ hex_after 0 l.digits)
