-- The kinds so far and those of the words that are left are all of them.
use Rattle.std.proofs.Common.{List, [], ◌∷◌, ◌++◌, refl, ◌∙◌, ap, arith}
use Rattle.std.proofs.lemmas.Result.{IfOk-from_err}
use Rattle.query_grammar.specs.declared.kind.Kind.{Kind}
use Rattle.query_words.specs.declared.word.Word.{Word}
use Rattle.query_words.specs.Words.{kind_of, kinds_of}
use Rattle.query_words.proofs.Steps.{one_more, no_more}
use Rattle.query_words.proofs.word.kinds_of.Goals as goal

pub returns-in_err-kinds : goal.returns-in_err-kinds
returns-in_err-kinds c = IfOk-from_err _ _ c.from_residual.ensures.0

pub loop-word-init : goal.loop-word-init
loop-word-init c = ap (λ (l : List Kind). l ++ kinds_of c.args.words.now) c.in_ok-kinds.ensures.items

pub returns-in_err-push : goal.returns-in_err-push
returns-in_err-push c = IfOk-from_err _ _ c.from_residual-in_err-push.ensures.0

pub loop-word-preserved : goal.loop-word-preserved
loop-word-preserved c =
    one_more (λ (w : Word). kind_of w.value) c.args.words.now c.loop-word.word-index c.word-item.result c.loop-word.kinds.items c.push.new.self.items (kinds_of c.args.words.now) c.loop-word-test.true c.word-item.is
    (c.in_ok-push.ensures.items ∙ ap (λ (k : Kind). c.loop-word.kinds.items ++ k ∷ []) c.kind_of.ensures) c.loop-word.invariant

pub returns : goal.returns
returns c = no_more kinds_of c.args.words.now c.loop-word.word-index c.loop-word.kinds.items (kinds_of c.args.words.now) refl (omega (arith, c.loop-word-test.false)) c.loop-word.invariant
