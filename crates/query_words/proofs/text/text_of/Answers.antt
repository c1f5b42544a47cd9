-- The text so far and the bytes of the characters that are left are the whole.
use Rattle.std.proofs.Common.{List, ℕ, ◌++◌, refl, ◌∙◌, ap, drop, arith, string_bytes}
use Rattle.std.specs.Str.{encode_utf8_all}
use Rattle.std.proofs.lemmas.Result.{IfOk-from_err}
use Rattle.query_words.proofs.Steps.{from_place, char_more, no_more}
use Rattle.query_words.proofs.text.text_of.Goals as goal

pub loop-c-init : goal.loop-c-init
loop-c-init c = ap (λ (l : List ℕ). l ++ encode_utf8_all c.args.chars.now) c.new-text.ensures.bytes

pub returns-in_err-push : goal.returns-in_err-push
returns-in_err-push c = IfOk-from_err _ _ c.from_residual.ensures.0

pub loop-c-preserved : goal.loop-c-preserved
loop-c-preserved c =
    char_more c.c-item.result (drop c.loop-c.c-index c.args.chars.now) _ (string_bytes c.loop-c.text) (string_bytes c.push.new.self) (encode_utf8_all c.args.chars.now) (from_place c.args.chars.now c.loop-c.c-index c.c-item.result c.loop-c-test.true c.c-item.is)
    c.in_ok-push.ensures.bytes c.loop-c.invariant

pub returns : goal.returns
returns c =
    c.from_string.ensures ∙ no_more encode_utf8_all c.args.chars.now c.loop-c.c-index (string_bytes c.loop-c.text) (encode_utf8_all c.args.chars.now) refl (omega (arith, c.loop-c-test.false)) c.loop-c.invariant
