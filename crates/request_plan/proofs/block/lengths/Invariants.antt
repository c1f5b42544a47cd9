use Rattle.std.proofs.Common.{◌≡◌, ◌++◌, true, length}
use Rattle.std.specs.List.{All}
use Rattle.request_plan.specs.Blocks.{form_cut}
use Rattle.request_plan.specs.Plans.{all_askable}
use Rattle.request_plan.specs.Targets.{block_lengths}
use Rattle.request_plan.proofs.block.lengths.Given as goal

abbrev pub invariant-loop-left : goal.invariant-loop-left
invariant-loop-left l = record {
  all : l.lengths.items ++ block_lengths (form_cut l.form l.most) l.rest l.left ≡ block_lengths (form_cut l.form l.most) l.rest l.rows;
  askable : All (λ row. all_askable row l.rest ≡ true) l.left;
}

abbrev pub decreases-loop-left : goal.decreases-loop-left
decreases-loop-left l = length l.left
