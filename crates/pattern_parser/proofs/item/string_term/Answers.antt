-- Without a token the string stands alone; else the first one and those after it are all of them.
use Rattle.std.proofs.Common.{◌≡◌, [], sym, ap, ◌∙◌, arith}
use Rattle.std.proofs.lemmas.List.{nil_from_length}
use Rattle.std.proofs.lemmas.Result.{IfOk-weaker}
use Rattle.pattern_parser.specs.Prefixes.{iris}
use Rattle.pattern_parser.specs.Items.{string_term}
use Rattle.pattern_parser.proofs.Variables.{first_then}
use Rattle.pattern_parser.proofs.item.string_term.Goals as goal

pub slice_bounds-more-count : goal.slice_bounds-more-count
slice_bounds-more-count c = c.in-len1-up.len_at_least

pub returns-in-empty : goal.returns-in-empty
returns-in-empty c =
    let none : c.args.rest.now ≡ [] = nil_from_length c.args.rest.now (omega (arith, c.in-empty.len_below)) in
    IfOk-weaker c.plain.result _ _ (λ t p. p ∙ ap (string_term (iris c.args.prefixes.now) c.args.form.now) (sym none)) c.plain.ensures

pub returns-in-len1-up : goal.returns-in-len1-up
returns-in-len1-up c =
    IfOk-weaker c.string_before.result _ _
    (λ t p. p ∙ ap (string_term (iris c.args.prefixes.now) c.args.form.now) (first_then c.args.rest.now c.word-item.result c.in-len1-up.len_at_least c.word-item.is)) c.string_before.ensures
