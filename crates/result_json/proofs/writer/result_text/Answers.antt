use Rattle.std.proofs.Common.{◌≡◌, false, [], ◌++◌, drop, sym, ap, ◌∙◌, arith, append-nil}
use Rattle.std.proofs.lemmas.List.{drop_all}
use Rattle.result_json.specs.Pieces.{front_text, rows_text, end_text}
use Rattle.result_json.proofs.Pieces.{pieces_make_the_text}
use Rattle.result_json.proofs.writer.result_text.Goals as goal

pub returns : goal.returns
returns c =
    let q = c.args.query.now in
    let rows = c.args.rows.now in
    let n = c.loop-row.row-index in
    let none_left : drop n rows ≡ [] = drop_all n rows (omega (arith, c.loop-row-test.false)) in
    let written : c.loop-row.writer.pending ≡ front_text q ++ rows_text q false rows =
    sym (append-nil c.loop-row.writer.pending) ∙ ap (λ rs. c.loop-row.writer.pending ++ rows_text q c.loop-row.writer.has_rows rs) (sym none_left) ∙ c.loop-row.invariant.1 in
    let whole : c.writer-2.inside.text.items ≡ c.loop-row.writer.pending ++ end_text = ap (λ w. w.pending) (c.writer-2.view_is) ∙ ap (λ w. w.pending) c.in_ok-finish.ensures.ok in
    whole ∙ ap (λ text. text ++ end_text) written ∙ sym (pieces_make_the_text q rows)
