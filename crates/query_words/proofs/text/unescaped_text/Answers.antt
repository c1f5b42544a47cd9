-- The text so far and the bytes of the characters that are left, without backslashes, are the whole.
use Rattle.std.proofs.Common.{ℕ, ◌+◌, List, ◌++◌, refl, sym, ◌∙◌, ap, drop, arith, string_bytes}
use Rattle.std.specs.Str.{encode_utf8_all}
use Rattle.std.proofs.lemmas.Result.{IfOk-from_err}
use Rattle.query_words.specs.Texts.{unescaped}
use Rattle.query_words.proofs.Steps.{char_more, no_more}
use Rattle.query_words.proofs.Unescaped.{kept, left_out}
use Rattle.query_words.proofs.text.unescaped_text.Goals as goal
use Rattle.query_words.proofs.text.unescaped_text.Goals.{then-c-ne92+in_ok-push, else-c-ne92}

pub loop-c-init : goal.loop-c-init
loop-c-init c = ap (λ (l : List ℕ). l ++ encode_utf8_all (unescaped c.args.chars.now)) c.new-text.ensures.bytes

pub returns-in_err-push : goal.returns-in_err-push
returns-in_err-push c = IfOk-from_err _ _ c.from_residual.ensures.0

pub loop-c-preserved : goal.loop-c-preserved
loop-c-preserved c =
    elim c.if-c-ne92.branch [
      | then-c-ne92+in_ok-push w ↦
          char_more c.c-item.result (unescaped (drop c.loop-c.c-index c.args.chars.now)) _ (string_bytes c.loop-c.text) (string_bytes c.if-c-ne92.text) (encode_utf8_all (unescaped c.args.chars.now))
          (kept c.args.chars.now c.loop-c.c-index c.c-item.result c.loop-c-test.true c.c-item.is w.if-c-ne92.true) (ap string_bytes w.text-is ∙ w.in_ok-push.ensures.bytes) c.loop-c.invariant
      | else-c-ne92 w ↦
          ap (λ (l : List ℕ). l ++ encode_utf8_all (unescaped (drop (c.loop-c.c-index + 1) c.args.chars.now))) (ap string_bytes w.text-is)
          ∙ ap (λ (l : List ℕ). string_bytes c.loop-c.text ++ encode_utf8_all l) (sym (left_out c.args.chars.now c.loop-c.c-index c.c-item.result c.loop-c-test.true c.c-item.is w.if-c-ne92.false)) ∙ c.loop-c.invariant
    ]

pub returns : goal.returns
returns c =
    c.from_string.ensures ∙ no_more (λ (l : List ℕ). encode_utf8_all (unescaped l)) c.args.chars.now c.loop-c.c-index (string_bytes c.loop-c.text) (encode_utf8_all (unescaped c.args.chars.now)) refl (omega (arith, c.loop-c-test.false)) c.loop-c.invariant
