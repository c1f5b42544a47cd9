use Rattle.std.proofs.Common.{take}
use Rattle.federation.specs.Changes.{IsUnknown}
use Rattle.federation.proofs.rounds.find.Given as goal

abbrev pub invariant-loop-place : goal.invariant-loop-place
invariant-loop-place l = IsUnknown (take l.place l.rounds) l.ticket
