-- The words so far and those of the pieces that are left are all of them.
use Rattle.std.proofs.Common.{List, [], ◌∷◌, ◌++◌, refl, ◌∙◌, ap, arith}
use Rattle.std.proofs.lemmas.Result.{IfOk-from_err}
use Rattle.query_words.specs.declared.word.Word.{Word}
use Rattle.query_words.specs.Words.{word_of, words_of}
use Rattle.query_words.proofs.Steps.{one_more_at, no_more}
use Rattle.query_words.proofs.word.words_of.Goals as goal

pub returns-in_err-words : goal.returns-in_err-words
returns-in_err-words c = IfOk-from_err _ _ c.from_residual.ensures.0

pub loop-piece-init : goal.loop-piece-init
loop-piece-init c = ap (λ (l : List Word). l ++ words_of c.args.chars.now c.args.pieces.now) c.in_ok-words.ensures.items

pub bounds-pieces-piece-index : goal.bounds-pieces-piece-index
bounds-pieces-piece-index c = c.loop-piece-test.true

pub word_of-requires-clause-short : goal.word_of-requires-clause-short
word_of-requires-clause-short c = c.requires.short

pub word_of-requires-clause-fits : goal.word_of-requires-clause-fits
word_of-requires-clause-fits c = c.requires.fits c.loop-piece.piece-index _ c.loop-piece-test.true

pub returns-in_err-word_of : goal.returns-in_err-word_of
returns-in_err-word_of c = IfOk-from_err _ _ c.from_residual-in_err-word_of.ensures.0

pub returns-in_err-push : goal.returns-in_err-push
returns-in_err-push c = IfOk-from_err _ _ c.from_residual-in_err-push.ensures.0

pub loop-piece-preserved : goal.loop-piece-preserved
loop-piece-preserved c =
    one_more_at (word_of c.args.chars.now) c.args.pieces.now c.loop-piece.piece-index _ c.loop-piece.words.items c.push.new.self.items (words_of c.args.chars.now c.args.pieces.now) c.loop-piece-test.true
    (c.in_ok-push.ensures.items ∙ ap (λ (w : Word). c.loop-piece.words.items ++ w ∷ []) c.in_ok-word_of.ensures) c.loop-piece.invariant

pub returns : goal.returns
returns c = no_more (words_of c.args.chars.now) c.args.pieces.now c.loop-piece.piece-index c.loop-piece.words.items (words_of c.args.chars.now c.args.pieces.now) refl (omega (arith, c.loop-piece-test.false)) c.loop-piece.invariant
