use Rattle.std.proofs.Common.{◌≡◌, ◌+◌, ◌≤◌, drop}
use Rattle.script_wire.specs.Scripts.{spoken_on}
use Rattle.script_wire.proofs.wire.count_spoken.Given as goal

abbrev pub invariant-loop-link : goal.invariant-loop-link
invariant-loop-link l = record {
  counted : l.spoken + spoken_on (drop l.link-index l.links) ≡ spoken_on l.links;
  few : l.spoken ≤ l.link-index;
}
