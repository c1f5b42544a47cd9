use Rattle.std.proofs.Common.{◌≡◌, ◌++◌, drop, string_bytes}
use Rattle.std.specs.Str.{encode_utf8_all}
use Rattle.query_words.specs.Texts.{unescaped}
use Rattle.query_words.proofs.text.unescaped_text.Given as goal

abbrev pub invariant-loop-c : goal.invariant-loop-c
invariant-loop-c l = string_bytes l.text ++ encode_utf8_all (unescaped (drop l.c-index l.chars)) ≡ encode_utf8_all (unescaped l.chars)
