use Rattle.std.proofs.Common.{◌≡◌, ◌++◌, drop}
use Rattle.request_plan.specs.Blocks.{forms_cut, blocks}
use Rattle.request_plan.specs.Targets.{block_lengths}
use Rattle.request_plan.proofs.block.measured_blocks.Given as goal

abbrev pub invariant-loop-length : goal.invariant-loop-length
invariant-loop-length l = record {
  lengths : drop l.length-index l.length-items ≡ block_lengths (forms_cut l.cut.forms l.cut.block) l.rest l.left.items;
  blocks : l.blocks.items ++ blocks (forms_cut l.cut.forms l.cut.block) l.rest l.left.items ≡ blocks (forms_cut l.cut.forms l.cut.block) l.rest l.fn.rows.items;
}
