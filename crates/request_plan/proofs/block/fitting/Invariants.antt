use Rattle.std.proofs.Common.{ℕ, ◌≡◌, ◌-◌, ◌≤◌, [], ◌∷◌, take}
use Rattle.request_plan.specs.Blocks.{form_cut}
use Rattle.request_plan.specs.Targets.{IsTarget, grown}
use Rattle.request_plan.proofs.block.fitting.Given as goal

abbrev pub invariant-loop-count : goal.invariant-loop-count
invariant-loop-count l = record {
  low : 1 ≤ l.count;
  high : l.count ≤ l.most;
  target : IsTarget l.form l.pattern (take l.count l.rows) l.target;
  front : (n : ℕ) → grown (form_cut l.form n) (l.pattern ∷ []) l.rows l.count (l.most - l.count) ≡ grown (form_cut l.form n) (l.pattern ∷ []) l.rows 1 (l.most - 1);
}
