-- No link before this place was left for the authority.
use Rattle.std.proofs.Common.{ℕ, ◌<◌, slice_index_or}
use Rattle.request_pool.specs.declared.asks.Spare.{Spare}
use Rattle.request_pool.specs.Polls.{IsFor}
use Rattle.request_pool.proofs.links.place_of.Given as goal

abbrev pub invariant-loop-place : goal.invariant-loop-place
invariant-loop-place l = (k : ℕ) (d : Spare) → k < l.place → ¬ IsFor l.address (slice_index_or l.spare k d)
