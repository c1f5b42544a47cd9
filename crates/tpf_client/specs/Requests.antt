-- What a call does on its wire: the links that are given in it, and how many requests it makes.
use Rattle.std.specs.Prelude.{ℕ, ◌≡◌, ◌≤◌, ◌<◌, ◌+◌, ◌*◌, false, List, length}
use Rattle.std.specs.List.Sorted.{IsPermutation}
use Rattle.tpf_base.specs.Addresses.{Address}
use Rattle.tpf_base.specs.Causes.{RoseBy}
use Rattle.tpf_base.specs.Links.{WireState}
use Rattle.pool_laws.specs.Owning.{IsAsBefore}
use Rattle.pool_laws.specs.Hosts.{IsDialledFor, EmptyPoolsOwnAtHosts, PutsOwnAtHosts, FaultsOwnAtHosts, StepsOwnAtHosts, ClosingAtHosts}
use Rattle.pool_laws.specs.Counting.{EmptyPoolsFewFailed, PutsFewFailed, StepsFewFailed, StepsCountTries, EmptyPoolsDial, PutsDial, FaultsDial, StepsDial}
use Rattle.pool_laws.specs.Causes.{RepliesAreRead, FaultsHaveCauses}
use Rattle.pool_laws.specs.Sending.{EmptyPoolsSent, PutsSent, FaultsSent, StepsSent, ClosingSent}
use Rattle.pool_laws.specs.Rising.{EmptyPoolsRose, PutsRose, FaultsRose}
use Rattle.pool_laws.specs.Failing.{EmptyPoolsFail, PutsFail, FaultsFail, StepsFail}
use Rattle.pool_laws.specs.Spending.{EmptyPoolsSpend, PutsSpend, FaultsSpend, StepsSpend, BudgetsAnswered, ClosingAnsweredMost}
use Rattle.pool_laws.specs.Provoking.{EmptyPoolsReady, PutsReady, StepsSpare}
use Rattle.pool_laws.specs.Requested.{EmptyPoolsRequested, PutsRequested, FaultsRequested, StepsRequested, ClosingRequested, RequestsAreFew, RequestsAreRises, EmptyPoolsAnswered, PutsAnswered, StepsAnswered, ClosingAnswered, AsksAreAnswered}
use Rattle.request_pool.specs.Pools.{Pooled}
use Rattle.tpf_client.specs.declared.options.Options.{Options}
use Rattle.tpf_client.specs.declared.options.Report.{Report}
use Rattle.tpf_client.specs.Traffic.{PoolEvent}
use Rattle.tpf_client.specs.Turns.{asked_in, answered_in}
use Rattle.tpf_client.specs.Offers.{Offer}

-- ---- links

-- each link that was given in the call is closed
abbrev pub AreClosed : WireState → WireState → Type 0
AreClosed since now = (k : ℕ) → since.given ≤ k → k < now.given → (now.links k).is_open ≡ false

-- each link that was given in the call was dialled for the host and the port of one of these addresses, where the wire tells it
abbrev pub AreDialledFor : List Address → WireState → WireState → Type 0
AreDialledFor homes since now = (k : ℕ) → since.given ≤ k → k < now.given → IsDialledFor homes since.nature.tells (now.links k).peer

-- each link that was given before is as it was, but that a wait may have answered it where it is open
abbrev pub OthersStay : WireState → WireState → Type 0
OthersStay since now = (k : ℕ) → k < since.given → IsAsBefore (since.links k) (now.links k)

-- what the wire is by its making stays, and no count of it fell: that of the dials may stand at its last value
pub record MovesOn (since now : WireState) : Type 0 where
  pub nature : now.nature ≡ since.nature
  pub given : since.given ≤ now.given
  pub faults : since.faults ≤ now.faults
  pub dials : RoseBy 0 since.dials now.dials

-- ---- answers

-- In these events each ask was answered; so many requests were started.
pub record AnswersAll (options : Options) (requests : ℕ) (events : List PoolEvent) (pool : Pooled) : Type 0 where
  pub answered : IsPermutation (asked_in events) (answered_in events)
  pub started : pool.started ≡ requests
  pub few : requests ≤ (options.retries + 1) * length (asked_in events)
  pub each : length (asked_in events) ≤ requests

-- ---- counts

-- at most so many dials were made in the call
abbrev pub DialsAtMost : ℕ → WireState → WireState → Type 0
DialsAtMost n since now = now.dials ≤ since.dials + n

-- at most so many links were given in the call
abbrev pub GivesAtMost : ℕ → WireState → WireState → Type 0
GivesAtMost n since now = now.given ≤ since.given + n

-- how many requests these addresses may need: one each, and as many more as it may be asked again
abbrev pub tries_of : Options → List Address → ℕ
tries_of options addresses = (options.retries + 1) * length addresses

-- As many requests were started as the choice that is reported has addresses to ask for, or more, and no more than these may need.
pub record RequestsAreTries (offer : Offer) (options : Options) (report : Report) : Type 0 where
  pub choice : offer.Choice
  pub is_choice : offer.IsChoice choice
  pub is_reported : offer.IsReported choice report.version
  pub each : length (offer.addresses choice) ≤ report.requests
  pub few : report.requests ≤ tries_of options (offer.addresses choice)

-- No more dials were made than the addresses of one of the choices may need requests.
pub record DialsAreTries (offer : Offer) (options : Options) (since now : WireState) : Type 0 where
  pub choice : offer.Choice
  pub is_choice : offer.IsChoice choice
  pub few : DialsAtMost (tries_of options (offer.addresses choice)) since now

-- ---- the laws on which this rests

pub record TrafficLaws : Type 0 where
  pub empty_own : EmptyPoolsOwnAtHosts
  pub puts_own : PutsOwnAtHosts
  pub faults_own : FaultsOwnAtHosts
  pub steps_own : StepsOwnAtHosts
  pub closing : ClosingAtHosts
  pub empty_dial : EmptyPoolsDial
  pub puts_dial : PutsDial
  pub faults_dial : FaultsDial
  pub steps_dial : StepsDial
  pub empty_few : EmptyPoolsFewFailed
  pub puts_few : PutsFewFailed
  pub steps_few : StepsFewFailed
  pub tries : StepsCountTries
  pub replies : RepliesAreRead
  pub causes : FaultsHaveCauses
  pub empty_sent : EmptyPoolsSent
  pub puts_sent : PutsSent
  pub faults_sent : FaultsSent
  pub steps_sent : StepsSent
  pub closing_sent : ClosingSent
  pub empty_rose : EmptyPoolsRose
  pub puts_rose : PutsRose
  pub faults_rose : FaultsRose
  pub empty_fail : EmptyPoolsFail
  pub puts_fail : PutsFail
  pub faults_fail : FaultsFail
  pub steps_fail : StepsFail
  pub empty_spend : EmptyPoolsSpend
  pub puts_spend : PutsSpend
  pub faults_spend : FaultsSpend
  pub steps_spend : StepsSpend
  pub budget_answered : BudgetsAnswered
  pub closing_most : ClosingAnsweredMost
  pub empty_ready : EmptyPoolsReady
  pub puts_ready : PutsReady
  pub spare : StepsSpare
  pub empty_requested : EmptyPoolsRequested
  pub puts_requested : PutsRequested
  pub faults_requested : FaultsRequested
  pub steps_requested : StepsRequested
  pub closing_requested : ClosingRequested
  pub few_requested : RequestsAreFew
  pub rises_requested : RequestsAreRises
  pub empty_answered : EmptyPoolsAnswered
  pub puts_answered : PutsAnswered
  pub steps_answered : StepsAnswered
  pub closing_answered : ClosingAnswered
  pub all_answered : AsksAreAnswered
