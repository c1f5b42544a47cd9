use Rattle.std.proofs.Common.{◌≡◌, ◌++◌, map}
use Rattle.std.specs.Vec.Iter.{into_iter_items}
use Rattle.std.specs.List.{All}
use Rattle.request_plan.specs.Blocks.{forms_cut, blocks}
use Rattle.request_plan.specs.Plans.{askable_rows}
use Rattle.join_core.specs.Nodes.{fresh}
use Rattle.join_core.specs.Shown.{IsBlockFor}
use Rattle.join_core.specs.Levels.{seed_node}
use Rattle.join_core.proofs.opening.add_nodes.Given as goal

abbrev pub invariant-loop-block : goal.invariant-loop-block
invariant-loop-block l = record {
  nodes : map seed_node l.nodes.items ++ map (fresh l.others.value) (into_iter_items l.block-iterator) ≡ map seed_node l.initial.nodes.items ++ map (fresh l.others.value) (blocks (forms_cut l.cut.forms l.cut.block) l.others.value (askable_rows l.others.value l.fn.rows.items));
  fit : All (IsBlockFor l.others.value) (into_iter_items l.block-iterator);
}
