use Rattle.std.proofs.Common.{◌≡◌, ◌++◌, ◌∷◌, [], take}
use Rattle.std.specs.List.{flat_map}
use Rattle.bgp_core.specs.Solutions.{extension, rows_from}
use Rattle.request_plan.proofs.found.add_held.Given as goal

abbrev pub invariant-loop-row : goal.invariant-loop-row
invariant-loop-row l = l.into.items ≡ l.initial.into.items ++ flat_map (λ row. rows_from (extension l.chosen row l.triple) (λ r. r ∷ [])) (take l.row-index l.row-items)
