-- The cell of the turn stands behind those so far, at its number.
use Rattle.std.proofs.Common.{◌≡◌, ◌+◌, ◌<◌, [], ◌∷◌, length, length-append, ap, sym, subst, ◌∙◌, arith}
use Rattle.std.proofs.lemmas.Result.{IfOk-from_err}
use Rattle.restricted_pages.proofs.Sieves.{one_more}
use Rattle.restricted_pages.proofs.sieve.cells_of.Goals as goal

pub loop-cell-init : goal.loop-cell-init
loop-cell-init c = record {
  number = ap length c.new-cells.ensures.items;
  each = λ k d l. absurd (omega (arith, l));
}

pub returns-in_err-made : goal.returns-in_err-made
returns-in_err-made c = IfOk-from_err _ _ c.from_residual.ensures.0

pub returns-in_err-push : goal.returns-in_err-push
returns-in_err-push c = IfOk-from_err _ _ c.from_residual-in_err-push.ensures.0

pub loop-cell-preserved : goal.loop-cell-preserved
loop-cell-preserved c = record {
  number = ap length c.in_ok-push.ensures.items ∙ length-append c.loop-cell.cells.items (c.in_ok-made.made ∷ []) ∙ ap (λ n. n + 1) c.loop-cell.invariant.number;
  each = one_more c.args.patterns.now c.in_ok-made.made c.loop-cell.cells.items c.push.new.self.items c.loop-cell.cell c.loop-cell.invariant.number c.loop-cell.invariant.each c.in_ok-made.ensures c.in_ok-push.ensures.items;
}

pub returns : goal.returns
returns c =
    let past = c.loop-cell-test.false in let most = c.loop-cell.auto.cell-end in
    let all : c.loop-cell.cell ≡ 512 = omega (arith, past, most) in record {
      number = c.loop-cell.invariant.number ∙ all;
      each = λ k d l. c.loop-cell.invariant.each k d (subst (λ n. k < n) (sym all) l);
    }
