use Rattle.std.proofs.Common.{◌≡◌, length}
use Rattle.tpf_server.proofs.Readings.{Progress}
use Rattle.tpf_server.proofs.owed.Debt.read_heads.Given as goal

abbrev pub invariant-loop-closes : goal.invariant-loop-closes
invariant-loop-closes l = Progress l.fn.server l.fn.requests.bytes l.fn.self.waiting.items l.self.waiting.items l.requests × (l.self.rest ≡ l.fn.self.rest)

abbrev pub decreases-loop-closes : goal.decreases-loop-closes
decreases-loop-closes l = length l.requests.bytes
