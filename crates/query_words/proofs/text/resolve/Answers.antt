-- The text so far and what the characters that are left stand for are the whole.
use Rattle.std.proofs.Common.{ℕ, List, ◌++◌, refl, ◌∙◌, ap, arith, string_bytes}
use Rattle.std.specs.Str.{encode_utf8_all}
use Rattle.std.proofs.lemmas.Result.{IfOk-from_err}
use Rattle.query_tokens.specs.Escapes.{resolved, resolved_after}
use Rattle.query_words.proofs.Steps.{no_more}
use Rattle.query_words.proofs.Unescaped.{skip_more, escape_more, plain_more}
use Rattle.query_words.proofs.text.resolve.Goals as goal
use Rattle.query_words.proofs.text.resolve.Goals.{then-skip-gt0, else-skip-gt0+then-c-eq92+in_ok-push, else-skip-gt0+else-c-eq92+in_ok-push-2}

pub loop-i-init : goal.loop-i-init
loop-i-init c = ap (λ (l : List ℕ). l ++ encode_utf8_all (resolved c.args.chars.now)) c.new-text.ensures.bytes

pub bounds-chars-i : goal.bounds-chars-i
bounds-chars-i c = c.loop-i-test.true

pub overflow_sub-skip : goal.overflow_sub-skip
overflow_sub-skip c = c.if-skip-gt0.true

pub slice_bounds-rest-count : goal.slice_bounds-rest-count
slice_bounds-rest-count c = omega (arith, c.loop-i-test.true)

pub returns-in_err-push : goal.returns-in_err-push
returns-in_err-push c = IfOk-from_err _ _ c.from_residual.ensures.0

pub returns-in_err-push-2 : goal.returns-in_err-push-2
returns-in_err-push-2 c = IfOk-from_err _ _ c.from_residual-in_err-push-2.ensures.0

pub loop-i-preserved : goal.loop-i-preserved
loop-i-preserved c =
    elim c.if-skip-gt0.branch [
      | then-skip-gt0 w ↦
          skip_more c.args.chars.now c.loop-i.i c.index-chars-i.result c.loop-i-test.true c.index-chars-i.is c.loop-i.skip c.if-skip-gt0.skip (string_bytes c.loop-i.text) (string_bytes c.if-skip-gt0.text) (encode_utf8_all (resolved c.args.chars.now)) c.loop-i.invariant
          w.if-skip-gt0.true w.skip-is (ap string_bytes w.text-is)
      | else-skip-gt0+then-c-eq92+in_ok-push w ↦
          escape_more c.args.chars.now c.loop-i.i c.index-chars-i.result c.loop-i-test.true c.index-chars-i.is c.loop-i.skip c.if-skip-gt0.skip (string_bytes c.loop-i.text) (string_bytes c.if-skip-gt0.text) (encode_utf8_all (resolved c.args.chars.now)) c.loop-i.invariant
          w.escape_value.result (omega (arith, w.if-skip-gt0.false)) w.if-c-eq92.true w.escape_value.ensures (w.skip-is ∙ w.escape_length-skip.ensures) (ap string_bytes w.text-is ∙ w.in_ok-push.ensures.bytes)
      | else-skip-gt0+else-c-eq92+in_ok-push-2 w ↦
          plain_more c.args.chars.now c.loop-i.i c.index-chars-i.result c.loop-i-test.true c.index-chars-i.is c.loop-i.skip c.if-skip-gt0.skip (string_bytes c.loop-i.text) (string_bytes c.if-skip-gt0.text) (encode_utf8_all (resolved c.args.chars.now)) c.loop-i.invariant
          (omega (arith, w.if-skip-gt0.false)) w.if-c-eq92.false w.skip-is (ap string_bytes w.text-is ∙ w.in_ok-push-2.ensures.bytes)
    ]

pub returns : goal.returns
returns c =
    c.from_string.ensures ∙ no_more (λ (l : List ℕ). encode_utf8_all (resolved_after c.loop-i.skip l)) c.args.chars.now c.loop-i.i (string_bytes c.loop-i.text) (encode_utf8_all (resolved c.args.chars.now)) refl (omega (arith, c.loop-i-test.false)) c.loop-i.invariant
