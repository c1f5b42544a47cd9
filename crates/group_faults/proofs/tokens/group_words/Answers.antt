use Rattle.std.proofs.Common.{sym, subst}
use Rattle.std.proofs.lemmas.Result.{err_from_is_err_and}
use Rattle.pattern_parser.specs.Queries.{ReadsTokens}
use Rattle.group_faults.proofs.Texts.{grammar_bad}
use Rattle.group_faults.proofs.tokens.group_words.Goals as goal

pub returns-in_err-check_grammar-clause-bad : goal.returns-in_err-check_grammar-clause-bad
returns-in_err-check_grammar-clause-bad c = λ w at h.
    let r = c.from_residual-in_err-check_grammar in
    let p = err_from_is_err_and r.result r.ensures.1 in
    let e = p.1 in
    let f = p.2 in
    let g = c.in_err-check_grammar.ensures.bad w at (cc) in
    let t : ReadsTokens c.args.text.now c.as_slice.result.now = subst (ReadsTokens c.args.text.now) (sym c.as_slice.ensures.value) c.in_ok-words.ensures.words in
    grammar_bad c.args.text.now c.as_slice.result.now w at g.1 t g.0 g.2 g.3
