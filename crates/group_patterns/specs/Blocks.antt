-- The calls for the blocks of a query with groups, one after another in the order in which they are written.
use Rattle.std.specs.Prelude.{ℕ, ◌≡◌, ◌≢◌, ◌≤◌, ◌+◌, ◌-◌, ◌++◌, List, [], ◌∷◌, length, Option, None, Ok, Err}
use Rattle.std.specs.List.{AllByRecursion}
use Rattle.tpf_base.specs.Addresses.{Address}
use Rattle.tpf_base.specs.Links.{WireState, OpensGiven}
use Rattle.bgp_core.specs.declared.pattern.Pattern.{Pattern}
use Rattle.bgp_core.specs.Queries.{QueryData}
use Rattle.bgp_core.specs.Solutions.{Places}
use Rattle.row_algebra.specs.Algebra.{HaveWidth}
use Rattle.group_query.specs.Trees.{block_query}
use Rattle.tpf_client.specs.declared.options.Options.{Options}
use Rattle.tpf_client.specs.declared.options.Report.{Report}
use Rattle.tpf_client.specs.declared.fault.ClientFault.{ClientFault}
use Rattle.tpf_client.specs.declared.fault.ClientFault.TheVariants as faults
use Rattle.tpf_client.specs.Calls.{AreThese, Returns, most_asked}
use Rattle.tpf_client.specs.Choices.{FailsOverOne}
use Rattle.tpf_client.specs.Offers.{publisher, offer_in_blocks}
use Rattle.tpf_client.specs.Ends.{ends_in_blocks}
use Rattle.tpf_client.specs.Sources.{world_sources}
use Rattle.tpf_client.specs.Honest.{IsSolutions}
use Rattle.tpf_client.specs.Plans.{OverHonest}
use Rattle.tpf_client.specs.Still.{SucceedsStill, PacesStill}
use Rattle.tpf_client.specs.Acts.{ActsOnWire}

-- ---- blocks that gave rows

-- what the call for a block told, and the rows that it gave
pub record BlockRows : Type 0 where
  pub report : Report
  pub rows : List Places

-- the rows of each block
abbrev pub rows_of : List BlockRows → List (List Places)
rows_of [] = []
rows_of (b ∷ bs) = b.rows ∷ rows_of bs

-- how many requests were started for these blocks
abbrev pub requests_of : List BlockRows → ℕ
requests_of [] = 0
requests_of (b ∷ bs) = b.report.requests + requests_of bs

-- the version that the first of them told; none where there is none
abbrev pub version_told : List BlockRows → Option ℕ
version_told [] = None
version_told (b ∷ bs) = b.report.version

-- all of them told that version
abbrev pub TellOneVersion : List BlockRows → Type 0
TellOneVersion bs = AllByRecursion (λ b. b.report.version ≡ version_told bs) bs

-- the options of the call for a block, which asks row by row, with another budget
abbrev pub with_budget : Options → ℕ → Options
with_budget options budget = record options { budget = budget; block = 1 }

-- what these blocks leave of the budget
abbrev pub left_by : Options → List BlockRows → Options
left_by options bs = with_budget options (options.budget - requests_of bs)

-- The call for a block gave these rows: there was something of the budget, and each row has a place for every name. What it did on its wire (`acts`), where no link is open but those that were given, and what it gave (`returns`) are said of the same events; over an honest other end the rows are the block's solutions over the version that it told; and where that answers over one version alone, this is told, and its plan paces the requests.
pub record GivesRows (allows : List ℕ → ℕ → List ℕ → List ℕ → Type 0) (options : Options) (start : Address) (q : QueryData) (b : BlockRows) (since now : WireState) : Type 0 where
  pub some : 1 ≤ options.budget
  pub acts : ActsOnWire allows (ends_in_blocks options.block q start) options (start ∷ []) (most_asked options q) (Ok b.report) (λ report. report) since now
  pub returns : Returns (AreThese acts.happened.events acts.happened.pool) (world_sources options.block) q (start ∷ []) b.report b.rows
  pub solutions : OverHonest allows start since (λ history config. IsSolutions (offer_in_blocks options.block (publisher history config) q start) b.report.version b.rows)
  pub paced : PacesStill allows options q start since now (λ report. report) (Ok b.report)
  pub width : HaveWidth (length q.names) b.rows
  pub alone : OpensGiven now

-- Each of these blocks was asked once and gave its rows, the first with so much of the budget, and each other with what those before it left of that.
abbrev pub GivesAll : (List ℕ → ℕ → List ℕ → List ℕ → Type 0) → Options → Address → List (List ℕ) → ℕ → List (List Pattern) → List BlockRows → WireState → WireState → Type 0
GivesAll allows options start names left [] [] since now = now ≡ since
GivesAll allows options start names left [] (b ∷ bs) since now = ⊥
GivesAll allows options start names left (ps ∷ pss) [] since now = ⊥
GivesAll allows options start names left (ps ∷ pss) (b ∷ bs) since now = (mid : WireState)
    × GivesRows allows (with_budget options left) start (block_query names ps) b since mid
    × GivesAll allows options start names (left - b.report.requests) pss bs mid now

-- All blocks gave their rows; they told one version, the one that is reported, and their requests are those that are reported.
pub record AsksAll (allows : List ℕ → ℕ → List ℕ → List ℕ → Type 0) (options : Options) (start : Address) (names : List (List ℕ)) (blocks : List (List Pattern)) (report : Report) (since now : WireState) : Type 0 where
  pub done : List BlockRows
  pub gives : GivesAll allows options start names options.budget blocks done since now
  pub one_version : TellOneVersion done
  pub requests : report.requests ≡ requests_of done
  pub version : report.version ≡ version_told done

-- ---- a fault

-- the fault of a block's call as that of the whole call: it tells the whole budget
abbrev pub of_block : ℕ → ClientFault → ClientFault
of_block budget faults.Exchange = faults.Exchange
of_block budget faults.Stalled = faults.Stalled
of_block budget (faults.Cut received) = faults.Cut received
of_block budget (faults.Reply fault received) = faults.Reply fault received
of_block budget (faults.Page fault body) = faults.Page fault body
of_block budget (faults.Changed first other) = faults.Changed first other
of_block budget (faults.Budget n) = faults.Budget budget
of_block budget faults.Sink = faults.Sink
of_block budget faults.OutOfMemory = faults.OutOfMemory

-- The call for a block ended with a fault: there was something of the budget, and no sink. What it did on its wire, the cause (`acts`), and what it came to before that (`fails`) are said of the same events, and over an honest other end of one version, that of its start page; where the other end answers over one version alone, whose plan fits, the fault is want of memory.
pub record EndsBlock (allows : List ℕ → ℕ → List ℕ → List ℕ → Type 0) (options : Options) (start : Address) (q : QueryData) (fault : ClientFault) (since now : WireState) : Type 0 where
  pub some : 1 ≤ options.budget
  pub acts : ActsOnWire allows (ends_in_blocks options.block q start) options (start ∷ []) (most_asked options q) (Err fault) (λ (report : Report). report) since now
  pub fails : FailsOverOne (AreThese acts.happened.events acts.happened.pool) acts.happened.pool.started allows (ends_in_blocks options.block q start) options (world_sources options.block) q (start ∷ []) fault since now None None
  pub still : SucceedsStill {A = Report} allows options q start since now ⊥ (Err fault)
  pub no_sink : fault ≢ faults.Sink
  pub alone : OpensGiven now

-- Why a call ended with a fault after these blocks gave their rows, where the others were still to be asked: the call for the next one ended with it; nothing of the budget is left for the next one; the next one told another version than the first; memory ran out; or, where no block is left, the sink failed.
pub data Stops (allows : List ℕ → ℕ → List ℕ → List ℕ → Type 0) (options : Options) (start : Address) (names : List (List ℕ)) (done : List BlockRows) (rest : List (List Pattern)) (fault : ClientFault) (since now : WireState) : Type 0 where
  InBlock : (ps : List Pattern) (more : List (List Pattern)) (own : ClientFault) → rest ≡ ps ∷ more → fault ≡ of_block options.budget own
      → EndsBlock allows (left_by options done) start (block_query names ps) own since now → Stops allows options start names done rest fault since now
  IsSpent : (ps : List Pattern) (more : List (List Pattern)) → rest ≡ ps ∷ more → requests_of done ≡ options.budget → fault ≡ faults.Budget options.budget
      → now ≡ since → Stops allows options start names done rest fault since now
  Differs : (ps : List Pattern) (more : List (List Pattern)) (first : BlockRows) (later : List BlockRows) (b : BlockRows) → rest ≡ ps ∷ more → done ≡ first ∷ later
      → first.report.version ≢ b.report.version → fault ≡ faults.Changed first.report.version b.report.version
      → GivesRows allows (left_by options done) start (block_query names ps) b since now → Stops allows options start names done rest fault since now
  IsLacking : fault ≡ faults.OutOfMemory → now ≡ since → Stops allows options start names done rest fault since now
  IsUnwritten : rest ≡ [] → fault ≡ faults.Sink → now ≡ since → Stops allows options start names done rest fault since now

-- how many requests were started in the call for the block at which the call stopped; none where it was not asked
abbrev pub started_last :
    (allows : List ℕ → ℕ → List ℕ → List ℕ → Type 0) (options : Options) (start : Address) (names : List (List ℕ)) (done : List BlockRows) (rest : List (List Pattern)) (fault : ClientFault) (since now : WireState)
    → Stops allows options start names done rest fault since now → ℕ
started_last allows options start names done rest fault since now (InBlock ps more own r e ends) = ends.acts.happened.pool.started
started_last allows options start names done rest fault since now (IsSpent ps more r spent e is) = 0
started_last allows options start names done rest fault since now (Differs ps more first later b r d ne e gives) = b.report.requests
started_last allows options start names done rest fault since now (IsLacking e is) = 0
started_last allows options start names done rest fault since now (IsUnwritten r e is) = 0

-- Some of the blocks, from the first one on, gave their rows and told one version, and then the call ended with a fault.
pub record AsksSome (allows : List ℕ → ℕ → List ℕ → List ℕ → Type 0) (options : Options) (start : Address) (names : List (List ℕ)) (blocks : List (List Pattern)) (fault : ClientFault) (since now : WireState) : Type 0 where
  pub asked : List (List Pattern)
  pub rest : List (List Pattern)
  pub blocks_are : blocks ≡ asked ++ rest
  pub done : List BlockRows
  pub between : WireState
  pub gives : GivesAll allows options start names options.budget asked done since between
  pub one_version : TellOneVersion done
  pub stops : Stops allows options start names done rest fault between now
