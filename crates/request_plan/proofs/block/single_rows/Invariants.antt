use Rattle.std.proofs.Common.{◌≡◌, [], ◌∷◌, ◌++◌, map}
use Rattle.std.specs.Vec.Iter.{into_iter_items}
use Rattle.request_plan.proofs.block.single_rows.Given as goal

abbrev pub invariant-loop-row : goal.invariant-loop-row
invariant-loop-row l = l.blocks.items ++ map (λ row. row ∷ []) (into_iter_items l.row-iterator) ≡ map (λ row. row ∷ []) l.fn.rows.items
