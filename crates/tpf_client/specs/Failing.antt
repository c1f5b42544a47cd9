-- Why a call failed too often, and what its requests were spent for, whatever the other ends of its wire answer.
use Rattle.std.specs.Prelude.{ℕ, ◌≡◌, ◌≤◌, ◌<◌, ◌+◌, ◌-◌, ◌*◌, List, length}
use Rattle.tpf_base.specs.Causes.{RoseBy}
use Rattle.tpf_base.specs.Links.{WireState}
use Rattle.request_pool.specs.Pools.{Pooled}
use Rattle.pool_laws.specs.Failing.{FailsBy, ended_links}
use Rattle.pool_laws.specs.Requested.{LinkRequests, TellsRequests, count_sent, count_answered, any}
use Rattle.tpf_client.specs.declared.options.Options.{Options}
use Rattle.tpf_client.specs.declared.fault.ClientFault.{ClientFault}
use Rattle.tpf_client.specs.declared.fault.ClientFault.TheVariants as faults
use Rattle.tpf_client.specs.Traffic.{PoolEvent}
use Rattle.tpf_client.specs.Turns.{asked_in}
use Rattle.tpf_client.specs.Offers.{Offer}
use Rattle.tpf_client.specs.Requests.{tries_of}

-- ---- failures

-- Over a lively wire: a request failed too often only where the rise of the wire's faults and the links of the call that ended are together at least once more than it may be asked again, and never for a stall.
abbrev pub IsFailedOften : Options → WireState → WireState → ClientFault → Type 0
IsFailedOften options since now faults.Exchange = FailsBy (options.retries + 1) since.faults now.faults (ended_links since now)
IsFailedOften options since now faults.Stalled = ⊥
IsFailedOften options since now (faults.Cut received) = FailsBy (options.retries + 1) since.faults now.faults (ended_links since now)
IsFailedOften options since now (faults.Reply fault received) = Unit {0}
IsFailedOften options since now (faults.Page fault body) = Unit {0}
IsFailedOften options since now (faults.Changed first other) = Unit {0}
IsFailedOften options since now (faults.Budget n) = Unit {0}
IsFailedOften options since now faults.Sink = Unit {0}
IsFailedOften options since now faults.OutOfMemory = Unit {0}

-- ---- the budget

-- of a call that ended for its budget
abbrev pub ForBudget : Type 0 → ClientFault → Type 0
ForBudget holds faults.Exchange = Unit {0}
ForBudget holds faults.Stalled = Unit {0}
ForBudget holds (faults.Cut received) = Unit {0}
ForBudget holds (faults.Reply fault received) = Unit {0}
ForBudget holds (faults.Page fault body) = Unit {0}
ForBudget holds (faults.Changed first other) = Unit {0}
ForBudget holds (faults.Budget n) = holds
ForBudget holds faults.Sink = Unit {0}
ForBudget holds faults.OutOfMemory = Unit {0}

-- The requests on the links that were given in the call, where the wire tells them. These links, the whole requests that were answered on them, and the rise of the wire's faults are together at least so many; and so with the whole requests that were sent.
pub record Spends (limit many : ℕ) (since now : WireState) : Type 0 where
  pub on : ℕ → LinkRequests
  pub told : (k : ℕ) → since.given ≤ k → k < now.given → TellsRequests limit (now.links k) (on k)
  pub rises : ℕ
  pub rose : RoseBy rises since.faults now.faults
  pub answered : many ≤ (now.given - since.given) + count_answered any on since now + rises
  pub sent : many ≤ (now.given - since.given) + count_sent any on since now + rises

-- as many as the budget says
abbrev pub SpendsRequests : Options → WireState → WireState → Type 0
SpendsRequests options since now = Spends options.max_body options.budget since now

-- In these events just as many requests were started as the budget says, and fewer than the asks may be tried.
pub record SpendsTries (options : Options) (events : List PoolEvent) (pool : Pooled) : Type 0 where
  pub spent : pool.started ≡ options.budget
  pub tries : options.budget < (options.retries + 1) * length (asked_in events)

-- The budget is less than the addresses that one of the choices has to ask for may need requests.
pub record SpendsPlan (offer : Offer) (options : Options) : Type 0 where
  pub choice : offer.Choice
  pub is_choice : offer.IsChoice choice
  pub tries : options.budget < tries_of options (offer.addresses choice)
