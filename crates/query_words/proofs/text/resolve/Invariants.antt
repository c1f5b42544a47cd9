use Rattle.std.proofs.Common.{◌≡◌, ◌++◌, drop, string_bytes}
use Rattle.std.specs.Str.{encode_utf8_all}
use Rattle.query_tokens.specs.Escapes.{resolved_after}
use Rattle.query_words.proofs.text.resolve.Given as goal

abbrev pub invariant-loop-i : goal.invariant-loop-i
invariant-loop-i l = string_bytes l.text ++ encode_utf8_all (resolved_after l.skip (drop l.i l.chars)) ≡ encode_utf8_all (resolved_after 0 l.chars)
