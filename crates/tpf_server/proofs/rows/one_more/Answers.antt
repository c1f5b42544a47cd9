-- A value that is a row comes behind the others, where there are not too many.
use Rattle.std.proofs.Common.{Some, None, refl, ap, sym, ◌∙◌, arith}
use Rattle.std.proofs.lemmas.Result.{IfOk-from_err}
use Rattle.tpf_server.specs.declared.rows.RowValues.TheVariants.{Read}
use Rattle.tpf_server.proofs.RowLaws.{one_row_more, row_fits, row_beyond}
use Rattle.tpf_server.proofs.rows.one_more.Goals as goal

pub returns-then-len-ge-MOST_ROWS : goal.returns-then-len-ge-MOST_ROWS
returns-then-len-ge-MOST_ROWS c = row_beyond c.args.rows c.args.value.now (omega (arith, c.if-len-ge-MOST_ROWS.true, c.len.ensures))

pub returns-in_err-row : goal.returns-in_err-row
returns-in_err-row c = IfOk-from_err _ _ c.from_residual.ensures.0

pub same-rows : goal.same-rows
same-rows c = refl

pub with-requires : goal.with-requires
with-requires c = row_fits c.args.value.now c.in-Some.row (sym c.in-Some.is ∙ c.in_ok-row.ensures)

pub returns-in_err-with-in-Some : goal.returns-in_err-with-in-Some
returns-in_err-with-in-Some c = IfOk-from_err _ _ c.from_residual-in_err-with-in-Some.ensures.0

pub returns-in_ok-with-in-Some : goal.returns-in_ok-with-in-Some
returns-in_ok-with-in-Some c =
    ap Read c.in_ok-with-in-Some.ensures
    ∙ one_row_more c.args.rows c.args.value.now (Some c.in-Some.row) (omega (arith, c.if-len-ge-MOST_ROWS.false, c.len.ensures)) (sym c.in-Some.is ∙ c.in_ok-row.ensures)

pub returns-in-None : goal.returns-in-None
returns-in-None c = one_row_more c.args.rows c.args.value.now None (omega (arith, c.if-len-ge-MOST_ROWS.false, c.len.ensures)) (sym c.in-None.is ∙ c.in_ok-row.ensures)
