-- A call that ended with a fault, by one choice of what the servers hold: the one that the start pages told, and each where they were not read.
use Rattle.std.specs.Prelude.{ℕ, ◌≡◌, ◌<◌, true, List, Option, Some}
use Rattle.tpf_base.specs.Addresses.{Address}
use Rattle.tpf_base.specs.Links.{WireState}
use Rattle.bgp_core.specs.Queries.{QueryData}
use Rattle.request_pool.specs.Pools.{Pooled}
use Rattle.request_plan.specs.Evaluations.{HasHome}
use Rattle.tpf_client.specs.declared.options.Options.{Options}
use Rattle.tpf_client.specs.declared.fault.ClientFault.{ClientFault}
use Rattle.tpf_client.specs.Traffic.{PoolEvent}
use Rattle.tpf_client.specs.Told.{told_at}
use Rattle.tpf_client.specs.Starts.{versions_of}
use Rattle.tpf_client.specs.Sources.{Sources}
use Rattle.tpf_client.specs.Calls.{WritesSome, Before, Behind, AtEnd}
use Rattle.tpf_client.specs.Offers.{Offer}
use Rattle.tpf_client.specs.Ends.{Ends, OverEnds}
use Rattle.tpf_client.specs.Honest.{WritesSolutionsFront}
use Rattle.tpf_client.specs.Requests.{DialsAtMost, tries_of}
use Rattle.tpf_client.specs.Requested.{RequestsPlan}
use Rattle.tpf_client.specs.Plans.{AsksPlan, CountsRises, IsHonestCause, IsLivelyCause}
use Rattle.tpf_client.specs.Failing.{ForBudget}
use Rattle.tpf_client.specs.Acts.{IsHonestCauseOf, IsLivelyCauseOf}

-- ---- which choice

-- the choice has, at each address with the authority of a start, the version that the start pages told
pub record HasTold (offer : Offer) (starts : List Address) (told : List (Option ℕ)) (choice : offer.Choice) : Type 0 where
  pub is_choice : offer.IsChoice choice
  pub versions : Address → ℕ
  pub tells : (address : Address) → told_at starts told address ≡ Some (versions address)
  pub has : (address : Address) → HasHome starts address → offer.HasVersion choice address (versions address)

-- this holds of a choice that the start pages told, and of each where the call ended before these were read
abbrev pub OfToldChoice :
    (ran : List PoolEvent → Pooled → Type 0) (sources : Sources) (q : QueryData) (starts : List Address) (budget : ℕ) (fault : ClientFault)
    (taken taken' : Option (List ℕ)) (offer : Offer) → WritesSome ran sources q starts budget fault taken taken' → (offer.Choice → Type 0) → Type 0
OfToldChoice ran sources q starts budget fault taken taken' offer (Before e) holds = (choice : offer.Choice) → offer.IsChoice choice → holds choice
OfToldChoice ran sources q starts budget fault taken taken' offer (Behind e) holds =
    (choice : offer.Choice) × HasTold offer starts (versions_of e.told) choice × holds choice
OfToldChoice ran sources q starts budget fault taken taken' offer (AtEnd e) holds =
    (choice : offer.Choice) × HasTold offer starts (versions_of e.told) choice × holds choice

-- ---- what is said of it

-- Over lively other ends: no more requests were started, dials made and links given than the choice has addresses and the wire's faults rose; and why the call failed there.
pub record FailsAlive (Started : ℕ → Type 0) (offer : Offer) (options : Options) (fault : ClientFault) (since now : WireState) (choice : offer.Choice) : Type 0 where
  pub counted : CountsRises Started offer since now
  pub counted_over : counted.choice ≡ choice
  pub cause : IsLivelyCause offer options since now fault
  pub cause_over : IsLivelyCauseOf offer options since now choice fault cause

-- A front of the text of the choice's rows was written; for its addresses alone requests were sent, and no more of them, and no more dials made, than these may need; the fault has its cause by this choice; and a budget that is spent is less than the tries that its addresses may need.
pub record FailsByChoice (Started : ℕ → Type 0) (offer : Offer) (options : Options) (q : QueryData) (fault : ClientFault) (since now : WireState) (taken taken' : Option (List ℕ)) (choice : offer.Choice) : Type 0 where
  pub prefix : WritesSolutionsFront offer q taken taken'
  pub prefix_over : prefix.choice ≡ choice
  pub asked : AsksPlan offer since now
  pub asked_over : asked.choice ≡ choice
  pub requested : RequestsPlan offer options since now
  pub requested_over : requested.choice ≡ choice
  pub dials : DialsAtMost (tries_of options (offer.addresses choice)) since now
  pub cause : IsHonestCause offer options fault
  pub cause_over : IsHonestCauseOf offer options choice fault cause
  pub spent : ForBudget (options.budget < tries_of options (offer.addresses choice)) fault
  pub alive : since.nature.lively ≡ true → FailsAlive Started offer options fault since now choice

-- A call that ended with this fault, after so many requests were started: over honest other ends all of that is said of one choice, the one that its start pages told, and of each where they were not read.
pub record FailsOverOne (ran : List PoolEvent → Pooled → Type 0) (started : ℕ) (allows : List ℕ → ℕ → List ℕ → List ℕ → Type 0) (ends : Ends) (options : Options) (sources : Sources) (q : QueryData) (starts : List Address) (fault : ClientFault) (since now : WireState) (taken taken' : Option (List ℕ)) : Type 0 where
  pub some : WritesSome ran sources q starts options.budget fault taken taken'
  pub over : OverEnds ends allows since (λ holder.
      OfToldChoice ran sources q starts options.budget fault taken taken' (ends.offer holder) some
      (FailsByChoice (λ n. n ≡ started) (ends.offer holder) options q fault since now taken taken'))
