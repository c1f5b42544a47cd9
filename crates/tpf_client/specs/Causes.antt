-- Why a call ended with a fault, by its last event.
use Rattle.std.specs.Prelude.{ℕ, ◌≡◌, ◌≢◌, List, Option}
use Rattle.tpf_base.specs.Addresses.{Address}
use Rattle.http_wire.specs.declared.message.Reply.{Reply}
use Rattle.fragment_page.specs.declared.page.Page.{Page}
use Rattle.fragment_page.specs.declared.page.PageFault.{PageFault}
use Rattle.control_reader.specs.Takes.{Takes, Faults}
use Rattle.request_pool.specs.declared.fault.PoolFault.{PoolFault}
use Rattle.request_pool.specs.declared.fault.PoolFault.TheVariants as pool
use Rattle.request_pool.specs.Pools.{Ask}
use Rattle.tpf_client.specs.declared.fault.ClientFault.{ClientFault}
use Rattle.tpf_client.specs.declared.fault.ClientFault.TheVariants as faults
use Rattle.tpf_client.specs.declared.asks.Arrived.{Arrived}
use Rattle.tpf_client.specs.Traffic.{PoolEvent, Came, Broke, EndsWith}

-- a fault of a pool as that of a call with a budget
abbrev pub shown_as : ℕ → PoolFault → ClientFault
shown_as budget pool.Exchange = faults.Exchange
shown_as budget pool.Stalled = faults.Stalled
shown_as budget (pool.Cut received) = faults.Cut received
shown_as budget (pool.Reply fault received) = faults.Reply fault received
shown_as budget pool.Budget = faults.Budget budget
shown_as budget pool.OutOfMemory = faults.OutOfMemory

-- the last reply that came has this body, which is no page of its address for this reason
pub record IsNoPage (fault : PageFault) (body : List ℕ) (events : List PoolEvent) : Type 0 where
  pub ask : Ask
  pub reply : Reply
  pub last : EndsWith (Came ask reply) events
  pub body_is : reply.body ≡ body
  pub why : Faults body ask.address fault

-- the version that the start page told of the server of an address
abbrev pub Versions : Type 0
Versions = Address → Option ℕ

-- the last reply that came is a page of another version than the start page of its server told, which is the first
pub record IsChanged (versions : Versions) (first other : Option ℕ) (events : List PoolEvent) : Type 0 where
  pub ask : Ask
  pub reply : Reply
  pub last : EndsWith (Came ask reply) events
  pub page : Page
  pub taken : Takes reply.body ask.address page
  pub version : page.version ≡ other
  pub first_is : first ≡ versions ask.address
  pub differs : first ≢ other

-- what each fault rests on; the versions are those of the start pages, where these were read
abbrev pub Explains : Versions → ℕ → ClientFault → List PoolEvent → Type 0
Explains versions budget faults.Exchange events = EndsWith (Broke pool.Exchange) events
Explains versions budget faults.Stalled events = EndsWith (Broke pool.Stalled) events
Explains versions budget (faults.Cut received) events = EndsWith (Broke (pool.Cut received)) events
Explains versions budget (faults.Reply fault received) events = EndsWith (Broke (pool.Reply fault received)) events
Explains versions budget (faults.Page fault body) events = IsNoPage fault body events
Explains versions budget (faults.Changed first other) events = IsChanged versions first other events
Explains versions budget (faults.Budget n) events = (n ≡ budget) × EndsWith (Broke pool.Budget) events
Explains versions budget faults.Sink events = Unit {0}
Explains versions budget faults.OutOfMemory events = Unit {0}

-- Why the page of a reply was not taken: it is none, it tells another version than the start page of its server, or memory is wanting.
abbrev pub IsTakeFault : Arrived → Versions → ClientFault → Type 0
IsTakeFault arrived versions (faults.Page fault body) = (body ≡ arrived.reply.body) × Faults body arrived.address fault
IsTakeFault arrived versions (faults.Changed first other) = (first ≡ versions arrived.address) × (first ≢ other) × ((page : Page) × Takes arrived.reply.body arrived.address page × (page.version ≡ other))
IsTakeFault arrived versions faults.OutOfMemory = Unit {0}
IsTakeFault arrived versions other = ⊥

-- a fault that comes of no event: of the sink, or want of memory
abbrev pub IsLocal : ClientFault → Type 0
IsLocal faults.Sink = Unit {0}
IsLocal faults.OutOfMemory = Unit {0}
IsLocal other = ⊥
