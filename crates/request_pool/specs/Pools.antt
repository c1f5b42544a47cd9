-- A pool of exchanges: what it holds.
use Rattle.std.specs.Prelude.{ℕ, ◌≢◌, ◌<◌, ◌≤◌, List, [], ◌∷◌, ◌++◌, map, length, Option, None}
use Rattle.tpf_base.specs.Addresses.{Address, authority_of}
use Rattle.request_pool.specs.declared.fault.PoolFault.{PoolFault}
use Rattle.request_pool.specs.declared.asks.Waiting.{Waiting}
use Rattle.request_pool.specs.declared.asks.Flight.{Flight}
use Rattle.request_pool.specs.declared.asks.Spare.{Spare}

-- A pool: its bounds; the asks that wait, first those that failed, then the oldest; the exchanges in flight, the oldest first, of which the first were polled in this round and the others are still to be polled; the links that were left; how many exchanges were started; and the fault that ended it.
pub record Pooled : Type 0 where
  pub links : ℕ
  pub retries : ℕ
  pub budget : ℕ
  pub limit : ℕ
  pub waiting : List Waiting
  pub polled : List Flight
  pub due : List Flight
  pub spare : List Spare
  pub started : ℕ
  pub fault : Option PoolFault

-- a pool that holds nothing
abbrev pub empty_pool : ℕ → ℕ → ℕ → ℕ → Pooled
empty_pool links retries budget limit = record {
  links = links;
  retries = retries;
  budget = budget;
  limit = limit;
  waiting = [];
  polled = [];
  due = [];
  spare = [];
  started = 0;
  fault = None;
}

-- what no step changes but the fault: a pool without what it holds
abbrev pub bounds_of : Pooled → Pooled
bounds_of pool = record pool { waiting = []; polled = []; due = []; spare = []; started = 0 }

-- the exchanges in flight, the oldest first
abbrev pub in_flight : Pooled → List Flight
in_flight pool = pool.polled ++ pool.due

-- a pool with one more ask, behind those that wait
abbrev pub with_ask : ℕ → Address → Pooled → Pooled
with_ask ticket address pool = record pool { waiting = pool.waiting ++ (record { ticket = ticket; address = address; failed = 0 }) ∷ [] }

-- with one more exchange, behind those that were polled
abbrev pub with_polled : Flight → Pooled → Pooled
with_polled f pool = record pool { polled = pool.polled ++ f ∷ [] }

-- with one more link that was left, for the authority of an address
abbrev pub with_spare : ℕ → Address → Pooled → Pooled
with_spare k address pool = record pool { spare = pool.spare ++ (record { link = k; authority = authority_of address }) ∷ [] }

-- an ask waits, and a place is free
abbrev pub CanStart : Pooled → Type 0
CanStart pool = (length (in_flight pool) < pool.links) × (pool.waiting ≢ [])

-- an ask waits, a place is free, and as many exchanges were started as the budget allows
pub record IsOverBudget (pool : Pooled) : Type 0 where
  pub waits : pool.waiting ≢ []
  pub free : length (in_flight pool) < pool.links
  pub spent : pool.budget ≤ pool.started

-- an address that is asked for under a ticket
pub record Ask : Type 0 where
  pub ticket : ℕ
  pub address : Address

abbrev pub ask_waiting : Waiting → Ask
ask_waiting w = record { ticket = w.ticket; address = w.address }

abbrev pub ask_flying : Flight → Ask
ask_flying f = record { ticket = f.ticket; address = f.exchange.address }

-- the asks that it holds
abbrev pub held : Pooled → List Ask
held pool = map ask_waiting pool.waiting ++ map ask_flying (in_flight pool)
