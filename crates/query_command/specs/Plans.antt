-- What a query asks of a server in the same process, and how it may end there.
use Rattle.std.specs.Prelude.{ℕ, ◌≡◌, ◌⊎◌, ◌+◌, ◌-◌, ◌*◌, ◌/◌, ◌^◌, ◌≤◌, ◌<◌, ◌++◌, Bool, [], ◌∷◌, List, length, count_by, codes, Option, Some, None, Result, Ok, Err, IfOk, IfErr}
use Rattle.std.specs.List.{AllByRecursion, Contains}
use Rattle.std.specs.List.Sorted.{IsPermutation}
use Rattle.rdf_terms.specs.declared.term.Triple.{Triple}
use Rattle.tpf_base.specs.Addresses.{Address}
use Rattle.tpf_base.specs.Links.{WireState}
use Rattle.triple_table.specs.declared.choice.Choice.TheVariants.{DefaultGraph}
use Rattle.triple_table.specs.Chosen.{chosen}
use Rattle.triple_table.specs.Served.{IsServed}
use Rattle.template_fill.specs.Metadata.{Config}
use Rattle.http_wire.specs.declared.message.ReplyFault.TheVariants as refusals
use Rattle.bgp_core.specs.Queries.{QueryData}
use Rattle.loop_wire.specs.Looped.{Looped}
use Rattle.fragment_server.specs.declared.server.FragmentServer.{FragmentServer}
use Rattle.pool_laws.specs.Sending.{SendsFor}
use Rattle.pool_laws.specs.Requested.{LinkRequests, TellsRequests, over_links, whole_requests}
use Rattle.generated_data.specs.Generated.{generated}
use Rattle.tpf_client.specs.declared.options.Options.{Options}
use Rattle.tpf_client.specs.declared.options.Report.{Report}
use Rattle.tpf_client.specs.declared.fault.ClientFault.{ClientFault}
use Rattle.tpf_client.specs.declared.fault.ClientFault.TheVariants as client_faults
use Rattle.tpf_client.specs.Offers.{Publisher, Offer, publisher, addresses_in_blocks, offer_in_blocks}
use Rattle.tpf_client.specs.Plans.{HasLongPage, IsSmallByAll}
use Rattle.tpf_client.specs.Requested.{AnswersPlan}
use Rattle.data_files.specs.Data.{Files, IfTold, Serves}
use Rattle.data_files.specs.Queries.{HoldsQuery, IsOfQueryFile}
use Rattle.data_servers.specs.Servers.{serving}
use Rattle.answer_faults.specs.declared.fault.AnswerFault.{AnswerFault}
use Rattle.answer_faults.specs.declared.fault.AnswerFault.TheVariants as faults
use Rattle.answer_faults.specs.declared.fault.Counts.{Counts}
use Rattle.query_command.specs.Answers.{IsWanting}
use Rattle.query_command.specs.Generated.{LoopsGenerated, usual_options, usual_config}
use Rattle.query_command.specs.Loops.{LocalView, LoopsFile, LeavesHonest, local_base, local_config, wire_of}

-- the addresses that a query asks the server of these data for: the base, and the plan of its join (Verborgh et al.)
abbrev pub plan_of : Options → List Triple → Config → QueryData → List Address
plan_of options triples config q = addresses_in_blocks options.block (publisher (triples ∷ []) config) q local_base 1

-- what that server offers to the query
abbrev pub offer_of : Options → List Triple → Config → QueryData → Offer
offer_of options triples config q = offer_in_blocks options.block (publisher (triples ∷ []) config) q local_base

-- On each link whole requests for addresses of the plan were sent, and then nothing or a front of the request for one. How often one was requested is not said here (see BoundsRequests).
pub record SendsPlan (options : Options) (triples : List Triple) (config : Config) (q : QueryData) (wire : WireState) : Type 0 where
  pub asked : List Address
  pub rest : List Address
  pub plan_is : IsPermutation (plan_of options triples config q) (asked ++ rest)
  pub sent : (k : ℕ) → k < wire.given → SendsFor (Contains asked) (wire.links k)

-- on the wire that was made, where one was
abbrev pub SendsInside : Options → Option (Looped FragmentServer) → List Triple → Config → QueryData → Type 0
SendsInside options None triples config q = Unit {0}
SendsInside options (Some after) triples config q = SendsPlan options triples config q (wire_of after)

-- The requests on the links of a wire. Of any addresses no more whole requests were sent than they stand in the plan, each time as often as it may be tried.
pub record BoundsRequests (options : Options) (triples : List Triple) (config : Config) (q : QueryData) (wire : WireState) : Type 0 where
  pub on : ℕ → LinkRequests
  pub told : (k : ℕ) → k < wire.given → TellsRequests options.max_body (wire.links k) (on k)
  pub few : (test : Address → Bool) → over_links (λ k. count_by test (whole_requests (on k))) 0 wire.given ≤ (options.retries + 1) * count_by test (plan_of options triples config q)

-- on the wire that was made, where one was
abbrev pub RequestsInside : Options → Option (Looped FragmentServer) → List Triple → Config → QueryData → Type 0
RequestsInside options None triples config q = Unit {0}
RequestsInside options (Some after) triples config q = BoundsRequests options triples config q (wire_of after)

-- Each address of the plan was answered on the wire that was made as often as the plan has it, or more, and was requested no more than so often for each time that it may be tried.
abbrev pub RepliedInside : Option Files → LocalView → Option (Looped FragmentServer) → Report → List Triple → QueryData → Type 0
RepliedInside told local inside report triples q =
    LoopsFile told local inside (λ old new. AnswersPlan (offer_of local.options triples (local_config local.options local.page_size) q) local.options report (wire_of old) (wire_of new))

-- The same for an answer of so many rows, with the bounds of a call where no option is given.
abbrev pub RepliesRows : List Triple → Config → QueryData → ℕ → Looped FragmentServer → Looped FragmentServer → Type 0
RepliesRows triples config q rows old new = (report : Report) × (report.rows ≡ rows) × AnswersPlan (offer_of usual_options triples config q) usual_options report (wire_of old) (wire_of new)

-- on the wire that was made for the generated data
abbrev pub RepliedGenerated : ℕ → Option (Looped FragmentServer) → Counts → List Triple → QueryData → Type 0
RepliedGenerated persons inside counts triples q = LoopsGenerated persons inside (RepliesRows triples usual_config q counts.rows)

-- ---- how many requests there are, where each n-th dial fails, and none for 0

-- of so many addresses
pub record CountsRequests (n retries addresses requests : ℕ) : Type 0 where
  pub each : addresses ≤ requests
  pub exact : n ≡ 0 → requests ≡ addresses
  pub few : 2 ≤ n → requests ≤ addresses + addresses / (n - 1)
  pub tries : requests ≤ (retries + 1) * addresses

-- ---- how a query may end, where each n-th dial fails

-- dials of one request failed once more than it may be asked again, which takes so many other dials
pub record FailsOften (n retries addresses : ℕ) : Type 0 where
  pub some : 0 < n
  pub often : (n - 1) * (retries + 1) ≤ addresses

-- the addresses, and the requests that failed among them, are together more than the budget; and so are the tries that the addresses may take
pub record PassesBudget (n retries budget addresses : ℕ) : Type 0 where
  pub none : n ≡ 0 → budget < addresses
  pub some : 2 ≤ n → budget < addresses + addresses / (n - 1)
  pub tries : budget < (retries + 1) * addresses

-- Which faults may come of a call that has these addresses to ask for: a request fails too often, but is never stalled; a body of the plan is too long; the budget is too small; the output fails; memory is wanting. No body is no page, and no page tells another version.
abbrev pub MayEndBy : ℕ → Options → Offer → List Address → ClientFault → Type 0
MayEndBy n options offer plan client_faults.Exchange = FailsOften n options.retries (length plan)
MayEndBy n options offer plan client_faults.Stalled = ⊥
MayEndBy n options offer plan (client_faults.Cut received) = FailsOften n options.retries (length plan)
MayEndBy n options offer plan (client_faults.Reply fault received) = (fault ≡ refusals.TooLong) × HasLongPage offer options.max_body plan received
MayEndBy n options offer plan (client_faults.Page fault body) = ⊥
MayEndBy n options offer plan (client_faults.Changed first other) = ⊥
MayEndBy n options offer plan (client_faults.Budget most) = (most ≡ options.budget) × PassesBudget n options.retries options.budget (length plan)
MayEndBy n options offer plan client_faults.Sink = Unit {0}
MayEndBy n options offer plan client_faults.OutOfMemory = Unit {0}

-- of a query
abbrev pub MayEnd : ℕ → Options → List Triple → Config → QueryData → ClientFault → Type 0
MayEnd n options triples config q fault = MayEndBy n options (offer_of options triples config q) (plan_of options triples config q) fault

-- how a call over the wire ended
abbrev pub EndsAsPlanned : ℕ → Options → List Triple → Config → QueryData → Result Report ClientFault → Type 0
EndsAsPlanned n options triples config q (Ok report) = CountsRequests n options.retries (length (plan_of options triples config q)) report.requests
EndsAsPlanned n options triples config q (Err fault) = MayEnd n options triples config q fault

-- ---- the commands

-- a fault over the wire is one that may come
abbrev pub MayFail : ℕ → Options → List Triple → Config → QueryData → AnswerFault → Type 0
MayFail n options triples config q (faults.Data fault) = Unit {0}
MayFail n options triples config q (faults.Query fault) = Unit {0}
MayFail n options triples config q (faults.Client fault) = MayEnd n options triples config q fault

-- the query of a file: the requests of an answer, or why there is none
abbrev pub EndsLocally : ℕ → Options → List Triple → Config → QueryData → Result Report AnswerFault → Type 0
EndsLocally n options triples config q (Ok report) = CountsRequests n options.retries (length (plan_of options triples config q)) report.requests
EndsLocally n options triples config q (Err fault) = MayFail n options triples config q fault

-- the query of generated data
abbrev pub EndsCounted : Options → List Triple → Config → QueryData → Result Counts AnswerFault → Type 0
EndsCounted options triples config q (Ok counts) = Unit {0}
EndsCounted options triples config q (Err fault) = MayFail 0 options triples config q fault

-- of the data that are served of a file and the query of another, where the shelf tells them
abbrev pub OfFiles : Option Files → LocalView → (List Triple → QueryData → Type 0) → Type 0
OfFiles told local holds = IfTold told (λ files. (triples : List Triple) (q : QueryData) → Serves files local.name local.choice (codes "localhost") triples → HoldsQuery files local.query q → holds triples q)

-- of the generated data that are served, and the query of a file, where the shelf tells it
abbrev pub OfGenerated : Option Files → ℕ → List ℕ → (List Triple → QueryData → Type 0) → Type 0
OfGenerated told persons query_name holds = IfTold told (λ files. (triples : List Triple) (q : QueryData) → IsServed (codes "localhost") (chosen DefaultGraph (generated persons)) triples → HoldsQuery files query_name q → holds triples q)

-- ---- over any shelf, told or not

-- what holds where a wire was made: the data and the query were read
abbrev pub WhereMade : {X : Type 0} → Result X AnswerFault → Type 0 → Type 0
WhereMade (Ok answer) holds = holds
WhereMade (Err (faults.Data fault)) holds = Unit {0}
WhereMade (Err (faults.Query fault)) holds = Unit {0}
WhereMade (Err (faults.Client fault)) holds = holds

-- How a call over the wire ended that was made, by the plan over the data of its server: of a query, that of a file, which is that of the shelf, where it tells it.
pub record EndsOver (told : Option Files) (query_name : List ℕ) (n : ℕ) (options : Options) (result : Result Report ClientFault) (old : Looped FragmentServer) : Type 0 where
  pub q : QueryData
  pub is_read : IsOfQueryFile told query_name q
  pub ends : EndsAsPlanned n options (serving old.server).data_set (serving old.server).config q result

-- so a query of a file ends for which a wire was made
abbrev pub EndsFile : Option Files → LocalView → Option (Looped FragmentServer) → Result Report AnswerFault → Type 0
EndsFile told local inside (Ok report) = LoopsFile told local inside (λ old new. EndsOver told local.query local.fail_every local.options (Ok report) old)
EndsFile told local inside (Err (faults.Data fault)) = Unit {0}
EndsFile told local inside (Err (faults.Query fault)) = Unit {0}
EndsFile told local inside (Err (faults.Client fault)) = LoopsFile told local inside (λ old new. EndsOver told local.query local.fail_every local.options (Err fault) old)

-- and a query of generated data that is given up over its wire
abbrev pub EndsGenerated : Option Files → ℕ → List ℕ → Option (Looped FragmentServer) → Result Counts AnswerFault → Type 0
EndsGenerated told persons query_name inside (Ok counts) = Unit {0}
EndsGenerated told persons query_name inside (Err (faults.Data fault)) = Unit {0}
EndsGenerated told persons query_name inside (Err (faults.Query fault)) = Unit {0}
EndsGenerated told persons query_name inside (Err (faults.Client fault)) = LoopsGenerated persons inside (λ old new. EndsOver told query_name 0 usual_options (Err fault) old)

-- the wire that was made answers as its server does, also as it was left
abbrev pub HonestFile : Option Files → LocalView → Option (Looped FragmentServer) → Result Report AnswerFault → Type 0
HonestFile told local inside answer = WhereMade answer (LoopsFile told local inside LeavesHonest)

abbrev pub HonestGenerated : ℕ → Option (Looped FragmentServer) → Result Counts AnswerFault → Type 0
HonestGenerated persons inside answer = WhereMade answer (LoopsGenerated persons inside LeavesHonest)

-- ---- completeness

-- None of the causes is there: no dial fails or too few do, each body of the plan is within the limit, and the addresses with the requests that fail among them are within the budget.
pub record IsWithin (n : ℕ) (options : Options) (server : Publisher) (plan : List Address) : Type 0 where
  pub calm : (n ≡ 0) ⊎ (length plan < (n - 1) * (options.retries + 1))
  pub small : AllByRecursion (IsSmallByAll options.max_body server) plan
  pub none : n ≡ 0 → length plan ≤ options.budget
  pub some : 2 ≤ n → length plan + length plan / (n - 1) ≤ options.budget

-- of a query
abbrev pub PlanIsWithin : ℕ → Options → List Triple → Config → QueryData → Type 0
PlanIsWithin n options triples config q = IsWithin n options (publisher (triples ∷ []) config) (plan_of options triples config q)

-- ---- what the query of a file keeps to

-- requests were sent for addresses of the plan alone
abbrev pub SendsLocally : Option Files → LocalView → Option (Looped FragmentServer) → Type 0
SendsLocally told local inside = OfFiles told local (λ triples q. SendsInside local.options inside triples (local_config local.options local.page_size) q)

-- and of any of them no more than the plan has, each time as often as it may be tried
abbrev pub RequestsLocally : Option Files → LocalView → Option (Looped FragmentServer) → Type 0
RequestsLocally told local inside = OfFiles told local (λ triples q. RequestsInside local.options inside triples (local_config local.options local.page_size) q)

-- at an answer each address of the plan was answered
abbrev pub RepliesLocally : Option Files → LocalView → Option (Looped FragmentServer) → Result Report AnswerFault → Type 0
RepliesLocally told local inside answer = IfOk answer (λ report. OfFiles told local (RepliedInside told local inside report))

-- the same of generated data
abbrev pub RepliesGenerated : Option Files → ℕ → List ℕ → Option (Looped FragmentServer) → Result Counts AnswerFault → Type 0
RepliesGenerated told persons query_name inside answer = IfOk answer (λ counts. OfGenerated told persons query_name (RepliedGenerated persons inside counts))

-- it took so many requests, or ended for one of the causes
abbrev pub EndsByPlan : Option Files → LocalView → Result Report AnswerFault → Type 0
EndsByPlan told local answer = local.options.budget < 2 ^ 63 → OfFiles told local (λ triples q. EndsLocally local.fail_every local.options triples (local_config local.options local.page_size) q answer)

-- where none of the causes is there it succeeded, or memory is wanting
abbrev pub SucceedsByPlan : Option Files → LocalView → Result Report AnswerFault → Type 0
SucceedsByPlan told local answer = local.options.budget < 2 ^ 63 → OfFiles told local (λ triples q. PlanIsWithin local.fail_every local.options triples (local_config local.options local.page_size) q → IfErr answer IsWanting)
