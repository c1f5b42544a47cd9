use Rattle.std.proofs.Common.{◌≡◌, ◌-◌, true, false}
use Rattle.triple_table.specs.declared.ids.Row.{Row}
use Rattle.triple_table.specs.Rows.{row_order, goes_before}
use Rattle.triple_table.proofs.Narrowing.{Narrowed}
use Rattle.triple_table.proofs.rows.Rows.place.Given as goal

abbrev pub invariant-loop-low : goal.invariant-loop-low
invariant-loop-low g l =
    Narrowed (λ (r : Row). goes_before l.with_equal (row_order r l.bound) ≡ true) (λ (r : Row). goes_before l.with_equal (row_order r l.bound) ≡ false) l.self l.low l.high l.fn.steps l.steps

abbrev pub decreases-loop-low : goal.decreases-loop-low
decreases-loop-low g l = l.high - l.low
