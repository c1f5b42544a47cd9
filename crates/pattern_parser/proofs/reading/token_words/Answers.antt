use Rattle.query_tokens.specs.declared.piece.TheConstants.{LONGEST_QUERY}
use Rattle.pattern_parser.proofs.Texts.{words_few}
use Rattle.pattern_parser.proofs.reading.token_words.Goals as goal

pub returns-clause-few : goal.returns-clause-few
returns-clause-few c =
    words_few c.as_slice.result.now c.as_slice-2.result.now c.in_ok-pieces.pieces.items c.as_slice-3.result.now c.in_ok-words_of.field-0.items LONGEST_QUERY c.in_ok-pieces.ensures.tokens c.as_slice-3.ensures.value c.in_ok-words_of.ensures (rw (c.as_slice.ensures.value) c.in_ok-chars.ensures.short)
