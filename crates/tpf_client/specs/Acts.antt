-- What both calls promise of their wire, over whoever may hold the data.
use Rattle.std.specs.Prelude.{ℕ, ◌≡◌, ◌≤◌, List, map, true, Result, Ok, Err, IfOk, IfErr}
use Rattle.tpf_base.specs.Addresses.{Address}
use Rattle.tpf_base.specs.Links.{WireState}
use Rattle.tpf_client.specs.declared.options.Options.{Options}
use Rattle.tpf_client.specs.declared.options.Report.{Report}
use Rattle.tpf_client.specs.declared.fault.ClientFault.{ClientFault}
use Rattle.tpf_client.specs.declared.fault.ClientFault.TheVariants as faults
use Rattle.tpf_client.specs.Offers.{Offer}
use Rattle.tpf_client.specs.Ends.{Ends, OverEnds, OverLivelyEnds}
use Rattle.tpf_client.specs.Turns.{WaitFew, asked_in, address_of}
use Rattle.tpf_client.specs.Calls.{Happened, IsCause}
use Rattle.tpf_client.specs.Requests.{AreClosed, AreDialledFor, OthersStay, MovesOn, DialsAtMost, GivesAtMost, AnswersAll, RequestsAreTries, DialsAreTries}
use Rattle.tpf_client.specs.Requested.{RequestsPlan, AnswersPlan}
use Rattle.tpf_client.specs.Plans.{SendsOnly, AsksPlan, CountsRises, PacesRequests, IsHonestCause, IsLivelyCause, StaysUnprovoked}
use Rattle.tpf_client.specs.Failing.{IsFailedOften, ForBudget, Spends, SpendsRequests, SpendsTries, SpendsPlan}

-- what was asked for, what was requested and how often was dialled is all said of one choice
pub record IsOnePlan {offer : Offer} {options : Options} {since now : WireState} (asked : AsksPlan offer since now) (requested : RequestsPlan offer options since now) (planned : DialsAreTries offer options since now) : Type 0 where
  pub requested_is : requested.choice ≡ asked.choice
  pub planned_is : planned.choice ≡ asked.choice

-- what holds of the cause of a fault, where there is one
abbrev pub WithCause : {A : Type 0} (result : Result A ClientFault) (cause : ClientFault → Type 0) → IfErr result cause → ((fault : ClientFault) → cause fault → Type 0) → Type 0
WithCause (Ok x) cause known holds = Unit {0}
WithCause (Err fault) cause known holds = holds fault known

-- a cause over an honest wire is said of this choice
abbrev pub IsHonestCauseOf : (offer : Offer) (options : Options) (choice : offer.Choice) (fault : ClientFault) → IsHonestCause offer options fault → Type 0
IsHonestCauseOf offer options choice faults.Exchange cause = Unit {0}
IsHonestCauseOf offer options choice faults.Stalled cause = Unit {0}
IsHonestCauseOf offer options choice (faults.Cut received) cause = Unit {0}
IsHonestCauseOf offer options choice (faults.Reply fault received) cause = cause.choice ≡ choice
IsHonestCauseOf offer options choice (faults.Page fault body) cause = cause.choice ≡ choice
IsHonestCauseOf offer options choice (faults.Changed first other) cause = cause.choice ≡ choice
IsHonestCauseOf offer options choice (faults.Budget n) cause = Unit {0}
IsHonestCauseOf offer options choice faults.Sink cause = Unit {0}
IsHonestCauseOf offer options choice faults.OutOfMemory cause = Unit {0}

-- so is one over a lively wire
abbrev pub IsLivelyCauseOf : (offer : Offer) (options : Options) (since now : WireState) (choice : offer.Choice) (fault : ClientFault) → IsLivelyCause offer options since now fault → Type 0
IsLivelyCauseOf offer options since now choice faults.Exchange cause = Unit {0}
IsLivelyCauseOf offer options since now choice faults.Stalled cause = Unit {0}
IsLivelyCauseOf offer options since now choice (faults.Cut received) cause = Unit {0}
IsLivelyCauseOf offer options since now choice (faults.Reply fault received) cause = Unit {0}
IsLivelyCauseOf offer options since now choice (faults.Page fault body) cause = Unit {0}
IsLivelyCauseOf offer options since now choice (faults.Changed first other) cause = Unit {0}
IsLivelyCauseOf offer options since now choice (faults.Budget n) cause = cause.choice ≡ choice
IsLivelyCauseOf offer options since now choice faults.Sink cause = Unit {0}
IsLivelyCauseOf offer options since now choice faults.OutOfMemory cause = Unit {0}

-- and so is a budget that is spent
abbrev pub IsSpentOf : (offer : Offer) (options : Options) (choice : offer.Choice) (fault : ClientFault) → ForBudget (SpendsPlan offer options) fault → Type 0
IsSpentOf offer options choice faults.Exchange spent = Unit {0}
IsSpentOf offer options choice faults.Stalled spent = Unit {0}
IsSpentOf offer options choice (faults.Cut received) spent = Unit {0}
IsSpentOf offer options choice (faults.Reply fault received) spent = Unit {0}
IsSpentOf offer options choice (faults.Page fault body) spent = Unit {0}
IsSpentOf offer options choice (faults.Changed first other) spent = Unit {0}
IsSpentOf offer options choice (faults.Budget n) spent = spent.choice ≡ choice
IsSpentOf offer options choice faults.Sink spent = Unit {0}
IsSpentOf offer options choice faults.OutOfMemory spent = Unit {0}

-- What a call did by the plan, whoever of these holds the data; `told` is the report of what it answers, and `Started` says how many requests were started.
-- Over honest other ends what was sent, dialled and answered is what one choice has to ask for; over lively ones as often as faults rose, and no more. All this is said of one choice, which at Ok is the one that is reported, and so are the causes of a fault and a budget that is spent.
pub record ActsByPlan {A : Type 0} (allows : List ℕ → ℕ → List ℕ → List ℕ → Type 0) (ends : Ends) (Started : ℕ → Type 0) (options : Options) (result : Result A ClientFault) (told : A → Report) (since now : WireState) : Type 0 where
  pub requests : OverEnds ends allows since (λ holder. IfOk result (λ x. RequestsAreTries (ends.offer holder) options (told x)))
  pub planned : OverEnds ends allows since (λ holder. DialsAreTries (ends.offer holder) options since now)
  pub asked : OverEnds ends allows since (λ holder. AsksPlan (ends.offer holder) since now)
  pub requested : OverEnds ends allows since (λ holder. RequestsPlan (ends.offer holder) options since now)
  pub replied : OverEnds ends allows since (λ holder. IfOk result (λ x. AnswersPlan (ends.offer holder) options (told x) since now))
  pub honest_cause : OverEnds ends allows since (λ holder. IfErr result (IsHonestCause (ends.offer holder) options))
  pub counted : OverLivelyEnds ends allows since (λ holder. CountsRises Started (ends.offer holder) since now)
  pub paced : OverLivelyEnds ends allows since (λ holder. IfOk result (λ x. PacesRequests (ends.offer holder) (told x) since now))
  pub lively_cause : OverLivelyEnds ends allows since (λ holder. IfErr result (IsLivelyCause (ends.offer holder) options since now))
  pub one_plan : (holder : ends.Holder) (honest : ends.AreHonest allows holder since) → IsOnePlan (asked holder honest) (requested holder honest) (planned holder honest)
  pub one_count : (holder : ends.Holder) (honest : ends.AreHonest allows holder since) (alive : since.nature.lively ≡ true) → (counted holder honest alive).choice ≡ (asked holder honest).choice
  pub one_cause : (holder : ends.Holder) (honest : ends.AreHonest allows holder since)
      → WithCause result (IsHonestCause (ends.offer holder) options) (honest_cause holder honest) (IsHonestCauseOf (ends.offer holder) options (asked holder honest).choice)
  pub one_lively_cause : (holder : ends.Holder) (honest : ends.AreHonest allows holder since) (alive : since.nature.lively ≡ true)
      → WithCause result (IsLivelyCause (ends.offer holder) options since now) (lively_cause holder honest alive) (IsLivelyCauseOf (ends.offer holder) options since now (asked holder honest).choice)
  pub is_told : (holder : ends.Holder) (honest : ends.AreHonest allows holder since) → IfOk result (λ x. (ends.offer holder).IsReported (asked holder honest).choice (told x).version)
  pub spent_plan : OverEnds ends allows since (λ holder. IfErr result (ForBudget (SpendsPlan (ends.offer holder) options)))
  pub one_spent : (holder : ends.Holder) (honest : ends.AreHonest allows holder since)
      → WithCause result (ForBudget (SpendsPlan (ends.offer holder) options)) (spent_plan holder honest) (IsSpentOf (ends.offer holder) options (asked holder honest).choice)
  pub unprovoked : OverEnds ends allows since (λ holder. StaysUnprovoked options since now)

-- What a call did on its wire, and why it ended as it did; `told` is the report of what it answers, and no more asks wait at once than the most. All is said of what happened, one list of events.
-- Links: all are closed at the end, each was dialled for the authority of a start, and no other link is touched; the budget bounds the dials, the links and the requests; and each request that is reported is paid for by a link, by a whole request that was answered, or by a rise of the wire's faults.
-- Plan: what was asked and answered is what was offered.
-- Faults: what each shows of the wire, over lively ones, and of the requests and the tries where the budget was spent.
pub record ActsOnWire {A : Type 0} (allows : List ℕ → ℕ → List ℕ → List ℕ → Type 0) (ends : Ends) (options : Options) (starts : List Address) (most : ℕ) (result : Result A ClientFault) (told : A → Report) (since now : WireState) : Type 0 where
  pub happened : Happened allows options starts since now
  pub closed : AreClosed since now
  pub peers : AreDialledFor starts since now
  pub others : OthersStay since now
  pub moves : MovesOn since now
  pub dials : DialsAtMost options.budget since now
  pub given : GivesAtMost options.budget since now
  pub started : happened.pool.started ≤ options.budget
  pub waiting : WaitFew most 0 happened.events
  pub sent : SendsOnly (map address_of (asked_in happened.events)) since now
  pub cause : IfErr result (IsCause options happened.events happened.pool since now)
  pub answered : IfOk result (λ x. AnswersAll options (told x).requests happened.events happened.pool)
  pub within : IfOk result (λ x. (told x).requests ≤ options.budget)
  pub dialled : IfOk result (λ x. DialsAtMost (told x).requests since now)
  pub linked : IfOk result (λ x. GivesAtMost (told x).requests since now)
  pub paid : IfOk result (λ x. Spends options.max_body (told x).requests since now)
  pub plan : ActsByPlan allows ends (λ started. started ≡ happened.pool.started) options result told since now
  pub failed_often : since.nature.lively ≡ true → IfErr result (IsFailedOften options since now)
  pub spent_requests : IfErr result (ForBudget (SpendsRequests options since now))
  pub spent_tries : IfErr result (ForBudget (SpendsTries options happened.events happened.pool))
