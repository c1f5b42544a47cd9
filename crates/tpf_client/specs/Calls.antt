-- What a call promises.
use Rattle.std.specs.Prelude.{ℕ, ◌≡◌, ◌≢◌, ◌<◌, ◌≤◌, ◌++◌, ◌*◌, max, List, [], length, Option, None, Bool, true, false}
use Rattle.std.specs.Io.KnownBytes.{Appends}
use Rattle.std.specs.List.{All, Contains}
use Rattle.tpf_base.specs.Addresses.{Address}
use Rattle.tpf_base.specs.Causes.{Rose, counted_by}
use Rattle.tpf_base.specs.Links.{WireState}
use Rattle.tpf_base.specs.declared.wire.TheConstants.{MOST_IDLE}
use Rattle.tpf_base.specs.Wrote.{AppendsPrefix}
use Rattle.template_fill.specs.declared.form.Form.{Form}
use Rattle.tpf_base.specs.HttpReply as replies
use Rattle.tpf_base.specs.HttpReply.{reply_of}
use Rattle.http_wire.specs.Replies.{shown_fault}
use Rattle.http_wire.specs.declared.message.ReplyFault.{ReplyFault}
use Rattle.tpf_base.specs.Sending.{Holds}
use Rattle.pool_laws.specs.Causes.{RepliedOn}
use Rattle.fragment_page.specs.declared.page.Page.{Page}
use Rattle.fragment_page.specs.declared.page.PageFault.{PageFault}
use Rattle.control_reader.specs.Takes.{Takes, Faults}
use Rattle.bgp_core.specs.Queries.{QueryData}
use Rattle.bgp_core.specs.Solutions.{Places}
use Rattle.result_json.specs.Results.{result_text}
use Rattle.result_json.specs.Pieces.{front_text, rows_text}
use Rattle.request_pool.specs.Pools.{Pooled, Ask, empty_pool, held}
use Rattle.request_pool.specs.Owned.{SuitsWire, held_on}
use Rattle.request_pool.specs.Closing.{ClosesSome}
use Rattle.tpf_client.specs.declared.options.Options.{Options}
use Rattle.tpf_client.specs.declared.options.Report.{Report}
use Rattle.tpf_client.specs.declared.fault.ClientFault.{ClientFault}
use Rattle.tpf_client.specs.declared.fault.ClientFault.TheVariants as faults
use Rattle.tpf_client.specs.Traffic.{PoolEvent, Travels}
use Rattle.tpf_client.specs.Causes.{Explains, Versions}
use Rattle.tpf_client.specs.Told.{told_at, told_first}
use Rattle.tpf_client.specs.Starts.{ReadsStarts, AsksStarts, forms_of, versions_of}
use Rattle.tpf_client.specs.Turns.{ArePages, AsksAt, WaitFew, asked_in}
use Rattle.tpf_client.specs.Sources.{Sources, IsSourceOf, GivesSolutions, GivesSome}
-- ---- the solutions

pub use Rattle.request_plan.specs.Beginnings.{no_names_bound, solutions_of}

-- ---- the text

-- the text of a result with so many rows was written whole
pub record WritesResult (q : QueryData) (n : ℕ) (taken taken' : Option (List ℕ)) : Type 0 where
  pub rows : List Places
  pub text : Appends taken taken' (result_text q rows)
  pub count : n ≡ counted_by (length rows) 0

-- a front of the text of a result was written
pub record WritesPrefix (q : QueryData) (taken taken' : Option (List ℕ)) : Type 0 where
  pub rows : List Places
  pub text : AppendsPrefix taken taken' (result_text q rows)

-- ---- the evaluation

-- The evaluation of the query gave these rows and is done. No more asks wait at any moment than the most.
pub record Joins (allows : List ℕ → ℕ → List ℕ → List ℕ → Type 0) (most : ℕ) (sources : Sources) (q : QueryData) (starts : List Address) (forms : List Form) (versions : Versions) (events : List PoolEvent) (rows : List Places) (old new : Pooled) (wire wire' : WireState) : Type 0 where
  pub travels : Travels allows events old new wire wire'
  pub on_wire : SuitsWire new wire'
  pub asks : AsksAt starts events
  pub few : WaitFew most (length (held old)) events
  pub none_held : held new ≡ []
  pub no_fault : new.fault ≡ None
  pub pages : ArePages versions events
  pub width : All (λ row. length row ≡ length q.names) rows
  pub gives : (source : sources.Source) → IsSourceOf sources source forms versions events → GivesSolutions sources source q rows events

-- The evaluation of the query gave these rows, and then there was a fault. No more asks wait at any moment than the most.
pub record JoinsSome (allows : List ℕ → ℕ → List ℕ → List ℕ → Type 0) (most : ℕ) (sources : Sources) (q : QueryData) (starts : List Address) (forms : List Form) (versions : Versions) (budget : ℕ) (fault : ClientFault) (events : List PoolEvent) (rows : List Places) (old new : Pooled) (wire wire' : WireState) : Type 0 where
  pub travels : Travels allows events old new wire wire'
  pub on_wire : SuitsWire new wire'
  pub explains : Explains versions budget fault events
  pub asks : AsksAt starts events
  pub few : WaitFew most (length (held old)) events
  pub gives : (source : sources.Source) → IsSourceOf sources source forms versions events → GivesSome sources source q rows events

-- ---- the wire

-- the events of a call, from a pool that holds nothing until its links are closed
pub record RunsPool (allows : List ℕ → ℕ → List ℕ → List ℕ → Type 0) (options : Options) (since now : WireState) (events : List PoolEvent) (pool : Pooled) : Type 0 where
  pub between : WireState
  pub travels : Travels allows events (empty_pool options.links options.retries options.budget options.max_body) pool since between
  pub on_wire : SuitsWire pool between
  pub closes : ClosesSome (held_on pool) (λ k. 0) between now

-- What happened in a call: its events, one after another, each ask among them for the authority of a start; and the pool at their end.
pub record Happened (allows : List ℕ → ℕ → List ℕ → List ℕ → Type 0) (options : Options) (starts : List Address) (since now : WireState) : Type 0 where
  pub events : List PoolEvent
  pub pool : Pooled
  pub runs : RunsPool allows options since now events pool
  pub asks : AsksAt starts events

-- these are the events, and this is the pool
pub record AreThese (events : List PoolEvent) (pool : Pooled) (events' : List PoolEvent) (pool' : Pooled) : Type 0 where
  pub events_are : events' ≡ events
  pub pool_is : pool' ≡ pool

-- ---- a call on its wire, and the text; `ran` says which events there were, and which pool stood at their end

-- A call that gave these rows. Each address that it asked has the authority of a start, and each was answered by a page of the version that the start page of its server told.
pub record Returns (ran : List PoolEvent → Pooled → Type 0) (sources : Sources) (q : QueryData) (starts : List Address) (report : Report) (rows : List Places) : Type 0 where
  pub first : List PoolEvent
  pub later : List PoolEvent
  pub pool : Pooled
  pub runs : ran (first ++ later) pool
  pub told : List Page
  pub reads : ReadsStarts starts told first
  pub asks : AsksAt starts (first ++ later)
  pub none_held : held pool ≡ []
  pub no_fault : pool.fault ≡ None
  pub is_version : report.version ≡ sources.reported (told_first (versions_of told))
  pub pages : ArePages (told_at starts (versions_of told)) later
  pub requests : report.requests ≡ pool.started
  pub count : report.rows ≡ counted_by (length rows) 0
  pub width : All (λ row. length row ≡ length q.names) rows
  pub gives : (source : sources.Source) → IsSourceOf sources source (forms_of told) (told_at starts (versions_of told)) later → GivesSolutions sources source q rows later

-- A call that wrote the text of these rows.
pub record WritesAll (ran : List PoolEvent → Pooled → Type 0) (sources : Sources) (q : QueryData) (starts : List Address) (report : Report) (taken taken' : Option (List ℕ)) : Type 0 where
  pub rows : List Places
  pub returns : Returns ran sources q starts report rows
  pub text : Appends taken taken' (result_text q rows)

-- A call that ended with a fault before the start pages were read: nothing but the first starts was asked, and nothing was written.
pub record EndsBefore (ran : List PoolEvent → Pooled → Type 0) (starts : List Address) (budget : ℕ) (fault : ClientFault) (taken taken' : Option (List ℕ)) : Type 0 where
  pub events : List PoolEvent
  pub pool : Pooled
  pub runs : ran events pool
  pub asked : AsksStarts starts events
  pub explains : (versions : Versions) → Explains versions budget fault events
  pub nothing : taken' ≡ taken

-- A call that ended with a fault behind the start pages. Each source for which the pages that came there are true has these rows, as far as is said here, and this was written of them.
pub record EndsGiving (ran : List PoolEvent → Pooled → Type 0) (sources : Sources) (starts : List Address) (budget : ℕ) (fault : ClientFault) (Has : sources.Source → List Places → List PoolEvent → Type 0) (Writes : List Places → Type 0) : Type 0 where
  pub first : List PoolEvent
  pub later : List PoolEvent
  pub pool : Pooled
  pub runs : ran (first ++ later) pool
  pub told : List Page
  pub reads : ReadsStarts starts told first
  pub asks : AsksAt starts (first ++ later)
  pub explains : Explains (told_at starts (versions_of told)) budget fault later
  pub rows : List Places
  pub gives : (source : sources.Source) → IsSourceOf sources source (forms_of told) (told_at starts (versions_of told)) later → Has source rows later
  pub text : Writes rows

-- It gave some of its rows: of what stands in front of the rows and of these rows a front was written.
abbrev pub EndsBehind : (ran : List PoolEvent → Pooled → Type 0) (sources : Sources) (q : QueryData) (starts : List Address) (budget : ℕ) (fault : ClientFault) (taken taken' : Option (List ℕ)) → Type 0
EndsBehind ran sources q starts budget fault taken taken' =
    EndsGiving ran sources starts budget fault (λ source rows later. GivesSome sources source q rows later) (λ rows. AppendsPrefix taken taken' (front_text q ++ rows_text q false rows))

-- It gave all its rows, and could not write the text to its end.
abbrev pub EndsAtEnd : (ran : List PoolEvent → Pooled → Type 0) (sources : Sources) (q : QueryData) (starts : List Address) (budget : ℕ) (fault : ClientFault) (taken taken' : Option (List ℕ)) → Type 0
EndsAtEnd ran sources q starts budget fault taken taken' =
    EndsGiving ran sources starts budget fault (λ source rows later. GivesSolutions sources source q rows later) (λ rows. AppendsPrefix taken taken' (result_text q rows))

pub data WritesSome (ran : List PoolEvent → Pooled → Type 0) (sources : Sources) (q : QueryData) (starts : List Address) (budget : ℕ) (fault : ClientFault) (taken taken' : Option (List ℕ)) : Type 0 where
  Before : EndsBefore ran starts budget fault taken taken' → WritesSome ran sources q starts budget fault taken taken'
  Behind : EndsBehind ran sources q starts budget fault taken taken' → WritesSome ran sources q starts budget fault taken taken'
  AtEnd : EndsAtEnd ran sources q starts budget fault taken taken' → WritesSome ran sources q starts budget fault taken taken'

-- the events between a pool and its wire, in which no more asks wait at any moment than the most
pub record Ran (allows : List ℕ → ℕ → List ℕ → List ℕ → Type 0) (most : ℕ) (old new : Pooled) (wire wire' : WireState) (events : List PoolEvent) (pool : Pooled) : Type 0 where
  pub is_pool : pool ≡ new
  pub travels : Travels allows events old new wire wire'
  pub on_wire : SuitsWire new wire'
  pub few : WaitFew most (length (held old)) events

-- how many asks may wait for their replies at once behind the start pages, where so many servers are asked: for each row that is extended one for each pattern and server
abbrev pub most_behind : Options → QueryData → ℕ → ℕ
most_behind options q servers = length q.patterns * (options.window * servers)

-- how many asks of a query may wait at once: a start, and then as many as behind the start pages
abbrev pub most_over : Options → QueryData → ℕ → ℕ
most_over options q servers = max 1 (most_behind options q servers)

-- how many asks of a query may wait for their replies at once, where one server is asked: the start, and then for each row that is extended one for each pattern
abbrev pub most_asked : Options → QueryData → ℕ
most_asked options q = max 1 (length q.patterns * options.window)

-- ---- behind the start pages

-- All rows were written.
pub record WritesRest (allows : List ℕ → ℕ → List ℕ → List ℕ → Type 0) (most : ℕ) (sources : Sources) (q : QueryData) (starts : List Address) (forms : List Form) (versions : List (Option ℕ)) (report : Report) (old new : Pooled) (wire wire' : WireState) (taken taken' : Option (List ℕ)) : Type 0 where
  pub events : List PoolEvent
  pub rows : List Places
  pub joins : Joins allows most sources q starts forms (told_at starts versions) events rows old new wire wire'
  pub is_version : report.version ≡ sources.reported (told_first versions)
  pub requests : report.requests ≡ new.started
  pub count : report.rows ≡ counted_by (length rows) 0
  pub text : Appends taken taken' (result_text q rows)

-- All rows were gathered.
pub record GathersRest (allows : List ℕ → ℕ → List ℕ → List ℕ → Type 0) (most : ℕ) (sources : Sources) (q : QueryData) (starts : List Address) (forms : List Form) (versions : List (Option ℕ)) (report : Report) (rows : List Places) (old new : Pooled) (wire wire' : WireState) : Type 0 where
  pub events : List PoolEvent
  pub joins : Joins allows most sources q starts forms (told_at starts versions) events rows old new wire wire'
  pub is_version : report.version ≡ sources.reported (told_first versions)
  pub requests : report.requests ≡ new.started
  pub count : report.rows ≡ counted_by (length rows) 0

pub data WritesLess (allows : List ℕ → ℕ → List ℕ → List ℕ → Type 0) (most : ℕ) (sources : Sources) (q : QueryData) (starts : List Address) (forms : List Form) (versions : Versions) (budget : ℕ) (fault : ClientFault) (old new : Pooled) (wire wire' : WireState) (taken taken' : Option (List ℕ)) : Type 0 where
  PartOf : (events : List PoolEvent) (rows : List Places) → JoinsSome allows most sources q starts forms versions budget fault events rows old new wire wire' → AppendsPrefix taken taken' (front_text q ++ rows_text q false rows)
      → WritesLess allows most sources q starts forms versions budget fault old new wire wire' taken taken'
  WholeOf : (events : List PoolEvent) (rows : List Places) → Joins allows most sources q starts forms versions events rows old new wire wire' → Explains versions budget fault events → AppendsPrefix taken taken' (result_text q rows)
      → WritesLess allows most sources q starts forms versions budget fault old new wire wire' taken taken'

-- ---- causes

-- These bytes were received in reply to the request for an address that was asked in the call, on a link that was given in it.
pub record IsReceived (options : Options) (events : List PoolEvent) (since now : WireState) (received : List ℕ) : Type 0 where
  pub ask : Ask
  pub asked : Contains (asked_in events) ask
  pub on : RepliedOn options.max_body ask.address received now
  pub fresh : since.given ≤ on.k
  pub below : on.k < now.given

-- The link ended, and what was received is no whole reply at its end.
pub record IsCutShort (options : Options) (events : List PoolEvent) (since now : WireState) (received : List ℕ) : Type 0 where
  pub is_received : IsReceived options events since now received
  pub ended : Holds (now.links is_received.on.k).ended true
  pub more : reply_of received true options.max_body ≡ replies.More

-- What was received has this fault.
pub record IsRefusedReply (options : Options) (events : List PoolEvent) (since now : WireState) (fault : ReplyFault) (received : List ℕ) : Type 0 where
  pub is_received : IsReceived options events since now received
  pub why : replies.ReplyFault
  pub is_fault : fault ≡ shown_fault why
  pub bad : reply_of received false options.max_body ≡ replies.Bad why

-- This is the body of a whole reply, which was received. Where the reply is whole at its end alone the link ended.
pub record IsReplyBody (options : Options) (events : List PoolEvent) (since now : WireState) (body : List ℕ) : Type 0 where
  pub received : List ℕ
  pub is_received : IsReceived options events since now received
  pub at_end : Bool
  pub n : ℕ
  pub keeps : Bool
  pub whole : reply_of received at_end options.max_body ≡ replies.Whole body n keeps
  pub ended : at_end ≡ true → Holds (now.links is_received.on.k).ended true

-- The body of a whole reply is for this reason no page of the address that was asked.
pub record IsNoPageOf (options : Options) (events : List PoolEvent) (since now : WireState) (fault : PageFault) (body : List ℕ) : Type 0 where
  pub replied : IsReplyBody options events since now body
  pub why : Faults body replied.is_received.ask.address fault

-- The body of a whole reply is a page of the address that was asked, and tells another version than the first.
pub record IsOtherVersion (options : Options) (events : List PoolEvent) (since now : WireState) (first other : Option ℕ) : Type 0 where
  pub body : List ℕ
  pub replied : IsReplyBody options events since now body
  pub page : Page
  pub taken : Takes body replied.is_received.ask.address page
  pub version : page.version ≡ other
  pub differs : first ≢ other

-- What each fault shows of the wire and of what came: the faults rose; MOST_IDLE waits followed one another, which is never so over a lively wire; a link was cut; a reply is refused; a body is no page; a page tells another version; as many exchanges were started as the budget says.
abbrev pub IsCause : Options → List PoolEvent → Pooled → WireState → WireState → ClientFault → Type 0
IsCause options events pool since now faults.Exchange = Rose since.faults now.faults
IsCause options events pool since now faults.Stalled = (MOST_IDLE ≤ now.idle) × (since.nature.lively ≡ true → ⊥)
IsCause options events pool since now (faults.Cut received) = IsCutShort options events since now received
IsCause options events pool since now (faults.Reply fault received) = IsRefusedReply options events since now fault received
IsCause options events pool since now (faults.Page fault body) = IsNoPageOf options events since now fault body
IsCause options events pool since now (faults.Changed first other) = IsOtherVersion options events since now first other
IsCause options events pool since now (faults.Budget n) = (n ≡ options.budget) × (options.budget ≤ pool.started)
IsCause options events pool since now faults.Sink = Unit {0}
IsCause options events pool since now faults.OutOfMemory = Unit {0}
