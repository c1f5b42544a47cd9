-- The links that a pool holds: each is open, and held once.
use Rattle.std.specs.Prelude.{ℕ, ◌≡◌, ◌+◌, ◌≤◌, ◌==◌, Bool, true, false, List, [], ◌∷◌, Option, Some, None, if◌then◌else◌}
use Rattle.std.specs.List.{AllByRecursion}
use Rattle.tpf_base.specs.Links.{WireState}
use Rattle.exchange.specs.declared.exchange.Standing.TheVariants.{Underway}
use Rattle.request_pool.specs.declared.asks.Flight.{Flight}
use Rattle.request_pool.specs.declared.asks.Spare.{Spare}
use Rattle.request_pool.specs.Pools.{Pooled}

-- how often a link is this one
abbrev pub on_link : Option ℕ → ℕ → ℕ
on_link None k = 0
on_link (Some j) k = if j == k then 1 else 0

-- how often a link is held
abbrev pub flights_on : List Flight → ℕ → ℕ
flights_on [] k = 0
flights_on (f ∷ fs) k = on_link f.exchange.link k + flights_on fs k

abbrev pub spare_on : List Spare → ℕ → ℕ
spare_on [] k = 0
spare_on (s ∷ ss) k = on_link (Some s.link) k + spare_on ss k

abbrev pub held_on : Pooled → ℕ → ℕ
held_on pool k = flights_on pool.polled k + flights_on pool.due k + spare_on pool.spare k

-- how often a link may be held: once where it is open
abbrev pub times_open : Bool → ℕ
times_open true = 1
times_open false = 0

abbrev pub open_on : WireState → ℕ → ℕ
open_on wire k = times_open (wire.links k).is_open

-- none of the exchanges was ready yet
abbrev pub AreUnderway : List Flight → Type 0
AreUnderway flights = AllByRecursion (λ f. f.exchange.standing ≡ Underway) flights

-- What a pool asks of its wire, and what each step keeps: a link that it holds is open, and held once, and no exchange in flight was ready.
pub record SuitsWire (pool : Pooled) (wire : WireState) : Type 0 where
  pub polled : AreUnderway pool.polled
  pub due : AreUnderway pool.due
  pub owned : (k : ℕ) → held_on pool k ≤ open_on wire k
