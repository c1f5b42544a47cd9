-- All rows bind each name that was added, and no name before there is one.
use Rattle.std.proofs.Common.{◌≡◌, true, ℕ, List, sym, subst}
use Rattle.std.specs.List.{AllByRecursion}
use Rattle.std.proofs.lemmas.Result.{IfOk-from_err}
use Rattle.row_algebra.specs.Finding.{all_bind}
use Rattle.row_algebra.proofs.Keys.{shared_more, all_rows_bind}
use Rattle.row_algebra.proofs.key.shared_names.Goals as goal

pub returns-in_default-clause-left : goal.returns-in_default-clause-left
returns-in_default-clause-left c = all_rows_bind c.new-names.result.items c.args.left.now (subst (λ (l : List ℕ). AllByRecursion (λ n. all_bind n c.args.left.now ≡ true) l) (sym c.new-names.ensures.items) tt)

pub returns-in_default-clause-right : goal.returns-in_default-clause-right
returns-in_default-clause-right c = all_rows_bind c.new-names.result.items c.args.right.now (subst (λ (l : List ℕ). AllByRecursion (λ n. all_bind n c.args.right.now ≡ true) l) (sym c.new-names.ensures.items) tt)

pub returns-in_err-bound-clause-left : goal.returns-in_err-bound-clause-left
returns-in_err-bound-clause-left c = IfOk-from_err _ _ c.from_residual.ensures.0

pub returns-in_err-bound-clause-right : goal.returns-in_err-bound-clause-right
returns-in_err-bound-clause-right c = IfOk-from_err _ _ c.from_residual.ensures.0

pub loop-name-init : goal.loop-name-init
loop-name-init c = (
  subst (λ (l : List ℕ). AllByRecursion (λ n. all_bind n c.args.left.now ≡ true) l) (sym c.new-names.ensures.items) tt,
  subst (λ (l : List ℕ). AllByRecursion (λ n. all_bind n c.args.right.now ≡ true) l) (sym c.new-names.ensures.items) tt,
)

pub returns-in_err-add_shared-clause-left : goal.returns-in_err-add_shared-clause-left
returns-in_err-add_shared-clause-left c = IfOk-from_err _ _ c.from_residual-in_err-add_shared.ensures.0

pub returns-in_err-add_shared-clause-right : goal.returns-in_err-add_shared-clause-right
returns-in_err-add_shared-clause-right c = IfOk-from_err _ _ c.from_residual-in_err-add_shared.ensures.0

pub loop-name-preserved : goal.loop-name-preserved
loop-name-preserved c = shared_more c.args.left.now c.args.right.now c.loop-name.names.items c.add_shared.new.names.items _ c.loop-name.invariant.0 c.loop-name.invariant.1 c.in_ok-add_shared.ensures

pub returns-clause-left : goal.returns-clause-left
returns-clause-left c = all_rows_bind c.loop-name.names.items c.args.left.now c.loop-name.invariant.0

pub returns-clause-right : goal.returns-clause-right
returns-clause-right c = all_rows_bind c.loop-name.names.items c.args.right.now c.loop-name.invariant.1
