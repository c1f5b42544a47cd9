-- None of the starts before has the authority.
use Rattle.std.proofs.Common.{◌≡◌, drop}
use Rattle.tpf_client.specs.Told.{told_at}
use Rattle.tpf_client.proofs.turns.Bounds.version_at.Given as goal

abbrev pub invariant-loop-place : goal.invariant-loop-place
invariant-loop-place l = told_at (drop l.place l.self.starts.now) (drop l.place l.self.versions.now) l.address ≡ told_at l.self.starts.now l.self.versions.now l.address
