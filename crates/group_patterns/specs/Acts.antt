-- What the call of a query with groups promises of its wire, and what each fault shows.
use Rattle.std.specs.Prelude.{ℕ, ◌≡◌, ◌≢◌, ◌≤◌, ◌<◌, List, [], Bool, true, false, Result, Ok, Err, IfOk, IfErr, ◌+◌, ◌∷◌}
use Rattle.tpf_base.specs.Addresses.{Address}
use Rattle.tpf_base.specs.Causes.{Rose}
use Rattle.tpf_base.specs.HttpReply as replies
use Rattle.tpf_base.specs.HttpReply.{reply_of}
use Rattle.tpf_base.specs.Links.{WireState}
use Rattle.tpf_base.specs.declared.wire.TheConstants.{MOST_IDLE}
use Rattle.tpf_base.specs.Sending.{Holds}
use Rattle.http_wire.specs.Replies.{shown_fault}
use Rattle.http_wire.specs.declared.message.ReplyFault.{ReplyFault}
use Rattle.fragment_page.specs.declared.page.PageFault.{PageFault}
use Rattle.control_reader.specs.Takes.{Faults}
use Rattle.pool_laws.specs.Causes.{RepliedOn}
use Rattle.group_query.specs.Trees.{GroupData, group_tree, blocks_of}
use Rattle.tpf_client.specs.declared.options.Options.{Options}
use Rattle.tpf_client.specs.declared.options.Report.{Report}
use Rattle.tpf_client.specs.declared.fault.ClientFault.{ClientFault}
use Rattle.tpf_client.specs.declared.fault.ClientFault.TheVariants as faults
use Rattle.tpf_client.specs.Requests.{AreClosed, AreDialledFor, OthersStay, MovesOn, DialsAtMost, GivesAtMost}
use Rattle.tpf_client.specs.Offers.{Publisher, publisher}
use Rattle.tpf_client.specs.Plans.{OverHonest}
use Rattle.tpf_client.specs.Failing.{IsFailedOften, ForBudget, Spends, SpendsRequests}
use Rattle.tpf_client.specs.Honest.{IsHonestWire}
use Rattle.tpf_client.specs.Acts.{WithCause, ActsByPlan}
use Rattle.group_patterns.specs.Blocks.{requests_of, AsksAll, AsksSome, started_last}
use Rattle.group_patterns.specs.Plans.{TellFirst, group_ends, IsHonestGroupCause}

-- ---- causes

-- These bytes were received in reply to the request for an address, on a link that was given in the call.
pub record IsReceivedIn (limit : ℕ) (since now : WireState) (received : List ℕ) : Type 0 where
  pub address : Address
  pub on : RepliedOn limit address received now
  pub fresh : since.given ≤ on.k
  pub below : on.k < now.given

-- The link ended, and what was received is no whole reply at its end.
pub record IsCutIn (limit : ℕ) (since now : WireState) (received : List ℕ) : Type 0 where
  pub is_received : IsReceivedIn limit since now received
  pub ended : Holds (now.links is_received.on.k).ended true
  pub more : reply_of received true limit ≡ replies.More

-- What was received has this fault.
pub record IsRefusedIn (limit : ℕ) (since now : WireState) (fault : ReplyFault) (received : List ℕ) : Type 0 where
  pub is_received : IsReceivedIn limit since now received
  pub why : replies.ReplyFault
  pub is_fault : fault ≡ shown_fault why
  pub bad : reply_of received false limit ≡ replies.Bad why

-- The body of a whole reply, which was received, is for this reason no page of the address that was asked.
pub record IsNoPageIn (limit : ℕ) (since now : WireState) (fault : PageFault) (body : List ℕ) : Type 0 where
  pub received : List ℕ
  pub is_received : IsReceivedIn limit since now received
  pub at_end : Bool
  pub n : ℕ
  pub keeps : Bool
  pub whole : reply_of received at_end limit ≡ replies.Whole body n keeps
  pub ended : at_end ≡ true → Holds (now.links is_received.on.k).ended true
  pub why : Faults body is_received.address fault

-- What each fault shows of the wire, of what came, and of the sink: the wire's faults rose; MOST_IDLE waits followed one another, which is never so over a lively wire; a link was cut; a reply is refused; a body is no page; two versions differ; the budget is told whole; the sink's faults rose.
abbrev pub IsGroupCause : Options → WireState → WireState → ℕ → ℕ → ClientFault → Type 0
IsGroupCause options since now before after faults.Exchange = Rose since.faults now.faults
IsGroupCause options since now before after faults.Stalled = (MOST_IDLE ≤ now.idle) × (since.nature.lively ≡ true → ⊥)
IsGroupCause options since now before after (faults.Cut received) = IsCutIn options.max_body since now received
IsGroupCause options since now before after (faults.Reply fault received) = IsRefusedIn options.max_body since now fault received
IsGroupCause options since now before after (faults.Page fault body) = IsNoPageIn options.max_body since now fault body
IsGroupCause options since now before after (faults.Changed first other) = first ≢ other
IsGroupCause options since now before after (faults.Budget n) = n ≡ options.budget
IsGroupCause options since now before after faults.Sink = Rose before after
IsGroupCause options since now before after faults.OutOfMemory = Unit {0}

-- ---- the wire

-- what holds of what was asked for an answer, where there is one
abbrev pub WithReport : (result : Result Report ClientFault) (asks : Report → Type 0) → IfOk result asks → ((report : Report) → asks report → Type 0) → Type 0
WithReport (Ok report) asks known holds = holds report known
WithReport (Err fault) asks known holds = Unit {0}

-- So many requests were started for the blocks: those for the blocks that gave their rows and, at a fault, those for the one at which the call stopped.
abbrev pub IsStartedFor :
    (allows : List ℕ → ℕ → List ℕ → List ℕ → Type 0) (options : Options) (start : Address) (g : GroupData) (result : Result Report ClientFault) (since now : WireState)
    → IfOk result (λ report. AsksAll allows options start g.names (blocks_of (group_tree g)) report since now) → IfErr result (λ fault. AsksSome allows options start g.names (blocks_of (group_tree g)) fault since now) → ℕ → Type 0
IsStartedFor allows options start g (Ok report) since now blocks stops started = started ≡ requests_of blocks.done
IsStartedFor allows options start g (Err fault) since now blocks stops started =
    started ≡ requests_of stops.done + started_last allows options start g.names stops.done stops.rest fault stops.between now stops.stops

-- What a call did on its wire, and why it ended as it did; `before` and `after` count the faults of its sink.
-- Links: all are closed at the end, each was dialled for the authority of the start, and no other link is touched; the budget bounds the dials and the links of all blocks together, and at Ok the requests that are reported do, each of which is paid for by a link, by a whole request that was answered, or by a rise of the wire's faults.
-- Blocks: at Ok each was asked once, one after another, with what those before it left of the budget, and did on the wire what the call for one query does; at a fault some were. Without a block the wire is as before.
-- Plan: what was asked, requested and answered by all blocks together is what was offered, one block after another, as it is for one query; the requests are those that were started in the calls for these blocks, and the versions at a fault begin with those that the blocks told.
-- Faults: what each shows of the wire, over honest ends, over lively ones, and of the requests where the budget was spent.
pub record ActsOnGroups (allows : List ℕ → ℕ → List ℕ → List ℕ → Type 0) (options : Options) (start : Address) (g : GroupData) (result : Result Report ClientFault) (since now : WireState) (before after : ℕ) : Type 0 where
  pub closed : AreClosed since now
  pub peers : AreDialledFor (start ∷ []) since now
  pub others : OthersStay since now
  pub moves : MovesOn since now
  pub dials : DialsAtMost options.budget since now
  pub given : GivesAtMost options.budget since now
  pub within : IfOk result (λ report. report.requests ≤ options.budget)
  pub dialled : IfOk result (λ report. DialsAtMost report.requests since now)
  pub linked : IfOk result (λ report. GivesAtMost report.requests since now)
  pub paid : IfOk result (λ report. Spends options.max_body report.requests since now)
  pub blocks : IfOk result (λ report. AsksAll allows options start g.names (blocks_of (group_tree g)) report since now)
  pub stops : IfErr result (λ fault. AsksSome allows options start g.names (blocks_of (group_tree g)) fault since now)
  pub no_block : blocks_of (group_tree g) ≡ [] → now ≡ since
  pub plan : ActsByPlan allows (group_ends g start) (λ started. IsStartedFor allows options start g result since now blocks stops started) options result (λ report. report) since now
  pub one_told : (p : Publisher) (honest : IsHonestWire allows start p.history p.config since)
      → WithCause result (λ fault. AsksSome allows options start g.names (blocks_of (group_tree g)) fault since now) stops (λ fault asks. TellFirst asks.done (plan.asked p honest).choice)
  pub cause : IfErr result (IsGroupCause options since now before after)
  pub honest_cause : OverHonest allows start since (λ history config. IfErr result (IsHonestGroupCause (publisher history config) options g start))
  pub failed_often : since.nature.lively ≡ true → IfErr result (IsFailedOften options since now)
  pub spent_requests : IfErr result (ForBudget (SpendsRequests options since now))
