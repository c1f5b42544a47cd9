-- Each column's member joins those before it, and no call changes what stands before them.
use Rattle.std.proofs.Common.{ℕ, ◌+◌, List, ◌++◌, flat_map, refl, sym, ap, ◌∙◌, append_assoc, drop}
use Rattle.std.proofs.lemmas.List.{drop_more}
use Rattle.json.specs.Token.{Token}
use Rattle.bgp_core.specs.Solutions.{term_at}
use Rattle.result_json.specs.Results.{bound_member, name_at}
use Rattle.std.proofs.lemmas.Result.{IfOk-from_err}
use Rattle.result_json.proofs.tokens.put_row.Goals as goal

pub returns-in_err-begin_object-clause-tokens : goal.returns-in_err-begin_object-clause-tokens
returns-in_err-begin_object-clause-tokens c = IfOk-from_err _ _ c.from_residual.ensures.0

pub returns-in_err-begin_object-clause-before : goal.returns-in_err-begin_object-clause-before
returns-in_err-begin_object-clause-before c = c.begin_object.ensures.room.0

pub loop-n-init : goal.loop-n-init
loop-n-init c = (refl, refl)

pub returns-in_err-put_column-clause-tokens : goal.returns-in_err-put_column-clause-tokens
returns-in_err-put_column-clause-tokens c = IfOk-from_err _ _ c.from_residual-in_err-put_column.ensures.0

pub returns-in_err-put_column-clause-before : goal.returns-in_err-put_column-clause-before
returns-in_err-put_column-clause-before c = c.put_column.ensures.before ∙ c.loop-n.invariant.0 ∙ c.begin_object.ensures.room.0

pub loop-n-preserved : goal.loop-n-preserved
loop-n-preserved c =
    let columns = c.args.columns.now in
    let i = c.loop-n.n-index in
    let old = c.loop-n.writer.tokens in (
      c.in_ok-put_column.ensures.before ∙ c.loop-n.invariant.0,
      ap (λ (l : List Token). l ++ flat_map (λ n. bound_member (name_at c.args.names.now n) (term_at c.args.row.now n)) (drop (i + 1) columns)) c.in_ok-put_column.ensures.tokens ∙
          append_assoc old _ _ ∙
          ap (λ (l : List ℕ). old ++ flat_map (λ n. bound_member (name_at c.args.names.now n) (term_at c.args.row.now n)) l) (sym (drop_more columns i 0 c.loop-n-test.true)) ∙
          c.loop-n.invariant.1,
    )
