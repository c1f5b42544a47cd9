use Rattle.std.proofs.lemmas.Result.{err_from_is_err_and}
use Rattle.pattern_parser.proofs.Texts.{token_is_fault}
use Rattle.pattern_parser.proofs.reading.parse.Goals as goal

pub returns-in_err-words-clause-bad : goal.returns-in_err-words-clause-bad
returns-in_err-words-clause-bad c = λ w at h.
    let p = err_from_is_err_and c.from_residual.result c.from_residual.ensures.1 in
    let e = p.1 in
    let f = p.2 in
    token_is_fault c.args.text.now w at (c.in_err-words.ensures.bad w at (cc))
