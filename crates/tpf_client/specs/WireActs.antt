-- What a call promises of its wire, whatever the other ends answer.
use Rattle.std.specs.Prelude.{ℕ, ◌≡◌, ◌≤◌, List, map, length, true, Result, IfOk, IfErr}
use Rattle.tpf_base.specs.Addresses.{Address}
use Rattle.tpf_base.specs.Links.{WireState}
use Rattle.bgp_core.specs.Queries.{QueryData}
use Rattle.tpf_client.specs.declared.options.Options.{Options}
use Rattle.tpf_client.specs.declared.options.Report.{Report}
use Rattle.tpf_client.specs.declared.fault.ClientFault.{ClientFault}
use Rattle.tpf_client.specs.Turns.{WaitFew, asked_in, address_of}
use Rattle.tpf_client.specs.Calls.{Happened, most_over, IsCause}
use Rattle.tpf_client.specs.Requests.{AreClosed, AreDialledFor, OthersStay, MovesOn, DialsAtMost, GivesAtMost, AnswersAll}
use Rattle.tpf_client.specs.Plans.{SendsOnly}
use Rattle.tpf_client.specs.Failing.{IsFailedOften, ForBudget, Spends, SpendsRequests, SpendsTries}

-- All is said of what happened, one list of events.
-- Links: all are closed at the end, each was dialled for the authority of a start, and no other link is touched; the budget bounds the dials, the links and the requests; and each request that is reported is paid for by a link, by a whole request that was answered, or by a rise of the wire's faults. The window bounds how many asks wait at once.
-- Faults: what each shows of the wire, and of the requests and the tries where the budget was spent. `told` is the report of what the call answers.
pub record ActsAt {A : Type 0} (allows : List ℕ → ℕ → List ℕ → List ℕ → Type 0) (options : Options) (starts : List Address) (q : QueryData) (result : Result A ClientFault) (told : A → Report) (since now : WireState) : Type 0 where
  pub happened : Happened allows options starts since now
  pub closed : AreClosed since now
  pub peers : AreDialledFor starts since now
  pub others : OthersStay since now
  pub moves : MovesOn since now
  pub dials : DialsAtMost options.budget since now
  pub given : GivesAtMost options.budget since now
  pub started : happened.pool.started ≤ options.budget
  pub waiting : WaitFew (most_over options q (length starts)) 0 happened.events
  pub sent : SendsOnly (map address_of (asked_in happened.events)) since now
  pub cause : IfErr result (IsCause options happened.events happened.pool since now)
  pub answered : IfOk result (λ x. AnswersAll options (told x).requests happened.events happened.pool)
  pub within : IfOk result (λ x. (told x).requests ≤ options.budget)
  pub dialled : IfOk result (λ x. DialsAtMost (told x).requests since now)
  pub linked : IfOk result (λ x. GivesAtMost (told x).requests since now)
  pub paid : IfOk result (λ x. Spends options.max_body (told x).requests since now)
  pub failed_often : since.nature.lively ≡ true → IfErr result (IsFailedOften options since now)
  pub spent_requests : IfErr result (ForBudget (SpendsRequests options since now))
  pub spent_tries : IfErr result (ForBudget (SpendsTries options happened.events happened.pool))
