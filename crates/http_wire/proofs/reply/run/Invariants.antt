use Rattle.std.proofs.Common.{◌≡◌, ◌≤◌, ◌-◌, ℕ, List, length}
use Rattle.http_wire.proofs.ReadLemmas.{Along}
use Rattle.http_wire.proofs.reply.run.Given as goal

abbrev pub invariant-loop-at : goal.invariant-loop-at
invariant-loop-at l = record {
  later : l.start ≤ l.at;
  within : l.at ≤ length l.bytes;
  limit : l.state.limit ≡ l.fn.state.limit;
  begins : l.state.begins ≤ l.at;
  few : l.state.count ≤ l.state.begins;
  runs : (body : List ℕ) → length body ≡ l.fn.state.count → Along l.fn.state l.state l.bytes l.start l.at body;
}

abbrev pub decreases-loop-at : goal.decreases-loop-at
decreases-loop-at l = length l.bytes - l.at
