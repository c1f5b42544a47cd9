use Rattle.std.proofs.Common.{◌≡◌, take}
use Rattle.std.specs.List.{All}
use Rattle.joint_pages.specs.Parts.{tickets_in}
use Rattle.joint_pages.proofs.gathering.place_in.Given as goal

abbrev pub invariant-loop-place : goal.invariant-loop-place
invariant-loop-place l = All (λ t. t ≡ l.ticket → ⊥) (tickets_in (take l.place l.parts))
