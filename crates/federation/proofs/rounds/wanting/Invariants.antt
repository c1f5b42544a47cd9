use Rattle.std.proofs.Common.{take}
use Rattle.federation.specs.Changes.{NoneWant}
use Rattle.federation.proofs.rounds.wanting.Given as goal

abbrev pub invariant-loop-place : goal.invariant-loop-place
invariant-loop-place l = NoneWant (take l.place l.rounds)
