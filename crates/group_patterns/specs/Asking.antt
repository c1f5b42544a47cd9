-- What the blocks that were asked so far came to. It serves the proofs alone.
use Rattle.std.specs.Prelude.{ℕ, ◌≡◌, ◌≢◌, ◌+◌, ◌-◌, ◌⊎◌, ◌++◌, List, [], ◌∷◌, length, Option, None}
use Rattle.std.specs.List.{AllByRecursion}
use Rattle.tpf_base.specs.Addresses.{Address}
use Rattle.tpf_base.specs.Causes.{counted_by}
use Rattle.tpf_base.specs.Links.{WireState}
use Rattle.bgp_core.specs.declared.pattern.Pattern.{Pattern}
use Rattle.bgp_core.specs.Queries.{IsPatternOf}
use Rattle.bgp_core.specs.Solutions.{Places}
use Rattle.group_query.specs.declared.step.Step.{Step}
use Rattle.group_query.specs.declared.step.Step.TheVariants as steps
use Rattle.group_query.specs.Trees.{GroupData, group_tree, blocks_of, block_query}
use Rattle.group_rows.specs.Gathering.{gathered_answers}
use Rattle.tpf_client.specs.declared.options.Options.{Options}
use Rattle.tpf_client.specs.declared.options.Report.{Report}
use Rattle.tpf_client.specs.declared.fault.ClientFault.{ClientFault}
use Rattle.tpf_client.specs.declared.fault.ClientFault.TheVariants as faults
use Rattle.group_patterns.specs.Blocks.{BlockRows, rows_of, requests_of, version_told, TellOneVersion, with_budget, GivesRows, GivesAll, of_block, EndsBlock, AsksAll, AsksSome}
use Rattle.group_patterns.specs.Texts.{WritesGathered, WritesGatheredFront}

-- ---- the blocks of steps

-- the block of a step
abbrev pub block_in : Step → List (List Pattern)
block_in (steps.Block ps) = ps ∷ []
block_in steps.Empty = []
block_in steps.Join = []
block_in steps.Optional = []
block_in steps.Union = []

-- the blocks of steps, in their order
abbrev pub blocks_in : List Step → List (List Pattern)
blocks_in [] = []
blocks_in (s ∷ ss) = block_in s ++ blocks_in ss

-- each name of the blocks has a place
abbrev pub BlocksFit : ℕ → List (List Pattern) → Type 0
BlocksFit count pss = AllByRecursion (λ ps. AllByRecursion (IsPatternOf count) ps) pss

-- ---- what they came to

-- the rows of the blocks, what is left of the budget, and the version that the last block told
pub record Progress : Type 0 where
  pub rows : List (List Places)
  pub left : ℕ
  pub version : Option ℕ

-- no block was asked yet
abbrev pub no_progress : ℕ → Progress
no_progress budget = record { rows = []; left = budget; version = None }

-- these blocks came to that
pub record IsProgress (budget : ℕ) (done : List BlockRows) (p : Progress) : Type 0 where
  pub rows_are : p.rows ≡ rows_of done
  pub left_is : p.left + requests_of done ≡ budget
  pub version_is : p.version ≡ version_told done
  pub one_version : TellOneVersion done

-- what a block told and gave is kept: it is the first one, or it told the version of the others
pub record Keeps (b : BlockRows) (old new : Progress) : Type 0 where
  pub rows : new.rows ≡ old.rows ++ b.rows ∷ []
  pub left : new.left + b.report.requests ≡ old.left
  pub version : new.version ≡ b.report.version
  pub same : (old.rows ≡ []) ⊎ (old.version ≡ b.report.version)

-- it is not kept: it is not the first one, and told another version; or memory ran out
abbrev pub KeepsNot : BlockRows → Progress → ClientFault → Type 0
KeepsNot b old (faults.Changed first other) = (old.rows ≢ []) × (old.version ≢ b.report.version) × (first ≡ old.version) × (other ≡ b.report.version)
KeepsNot b old faults.OutOfMemory = (old.rows ≡ []) ⊎ (old.version ≡ b.report.version)
KeepsNot b old other = ⊥

-- the call for a block ended with a fault, or there was no memory for its query
pub data CallEnds (allows : List ℕ → ℕ → List ℕ → List ℕ → Type 0) (options : Options) (start : Address) (names : List (List ℕ)) (ps : List Pattern) (fault : ClientFault) (since now : WireState) : Type 0 where
  Called : EndsBlock allows options start (block_query names ps) fault since now → CallEnds allows options start names ps fault since now
  Lacking : fault ≡ faults.OutOfMemory → now ≡ since → CallEnds allows options start names ps fault since now

-- a block gave its rows, which were kept
pub record AsksBlock (allows : List ℕ → ℕ → List ℕ → List ℕ → Type 0) (options : Options) (start : Address) (names : List (List ℕ)) (ps : List Pattern) (old new : Progress) (since now : WireState) : Type 0 where
  pub block : BlockRows
  pub gives : GivesRows allows (with_budget options old.left) start (block_query names ps) block since now
  pub keeps : Keeps block old new

-- why a block's rows are not there: nothing of the budget is left, its call ended, or its rows were not kept
pub data BlockEnds (allows : List ℕ → ℕ → List ℕ → List ℕ → Type 0) (options : Options) (start : Address) (names : List (List ℕ)) (ps : List Pattern) (old : Progress) (fault : ClientFault) (since now : WireState) : Type 0 where
  NothingLeft : old.left ≡ 0 → fault ≡ faults.Budget options.budget → now ≡ since → BlockEnds allows options start names ps old fault since now
  InCall : (own : ClientFault) → fault ≡ of_block options.budget own → CallEnds allows (with_budget options old.left) start names ps own since now → BlockEnds allows options start names ps old fault since now
  NotKept : (b : BlockRows) → GivesRows allows (with_budget options old.left) start (block_query names ps) b since now → KeepsNot b old fault → BlockEnds allows options start names ps old fault since now

-- the block of a step, where it has one, gave its rows
abbrev pub AsksStep : (List ℕ → ℕ → List ℕ → List ℕ → Type 0) → Options → Address → List (List ℕ) → List (List Pattern) → Progress → Progress → WireState → WireState → Type 0
AsksStep allows options start names [] old new since now = (new ≡ old) × (now ≡ since)
AsksStep allows options start names (ps ∷ pss) old new since now = AsksBlock allows options start names ps old new since now

-- it has one, whose rows are not there
pub record StepEnds (allows : List ℕ → ℕ → List ℕ → List ℕ → Type 0) (options : Options) (start : Address) (names : List (List ℕ)) (blocks : List (List Pattern)) (old : Progress) (fault : ClientFault) (since now : WireState) : Type 0 where
  pub ps : List Pattern
  pub is_block : blocks ≡ ps ∷ []
  pub ends : BlockEnds allows options start names ps old fault since now

-- these blocks gave their rows
pub record AsksBlocks (allows : List ℕ → ℕ → List ℕ → List ℕ → Type 0) (options : Options) (start : Address) (names : List (List ℕ)) (blocks : List (List Pattern)) (new : Progress) (since now : WireState) : Type 0 where
  pub done : List BlockRows
  pub gives : GivesAll allows options start names options.budget blocks done since now
  pub progress : IsProgress options.budget done new

-- so far: those of the steps before, and the others are still to be asked
pub record AsksFirst (allows : List ℕ → ℕ → List ℕ → List ℕ → Type 0) (options : Options) (start : Address) (names : List (List ℕ)) (blocks rest : List (List Pattern)) (new : Progress) (since now : WireState) : Type 0 where
  pub asked : List (List Pattern)
  pub blocks_are : blocks ≡ asked ++ rest
  pub asks : AsksBlocks allows options start names asked new since now

-- ---- all blocks

-- the answers that are gathered from the rows of the blocks, and what is reported of them
pub record PutsTogether (budget : ℕ) (g : GroupData) (p : Progress) (rows : List Places) (report : Report) : Type 0 where
  pub rows_are : rows ≡ gathered_answers g p.rows
  pub requests : report.requests ≡ budget - p.left
  pub version : report.version ≡ p.version
  pub count : report.rows ≡ counted_by (length rows) 0

-- all blocks gave their rows, and from these the answers were gathered
pub record Gathers (allows : List ℕ → ℕ → List ℕ → List ℕ → Type 0) (options : Options) (start : Address) (g : GroupData) (report : Report) (rows : List Places) (since now : WireState) : Type 0 where
  pub asks : AsksAll allows options start g.names (blocks_of (group_tree g)) report since now
  pub rows_are : rows ≡ gathered_answers g (rows_of asks.done)
  pub count : report.rows ≡ counted_by (length rows) 0

-- ---- what was written

-- all blocks were asked, and the text of what is gathered from their rows was written whole
pub record AsksAndWrites (allows : List ℕ → ℕ → List ℕ → List ℕ → Type 0) (options : Options) (start : Address) (g : GroupData) (report : Report) (since now : WireState) (taken taken' : Option (List ℕ)) : Type 0 where
  pub asks : AsksAll allows options start g.names (blocks_of (group_tree g)) report since now
  pub writes : WritesGathered g asks.done report taken taken'

-- some blocks were asked, and nothing was written; or all were, and a prefix of such a text was written
pub record AsksAndStops (allows : List ℕ → ℕ → List ℕ → List ℕ → Type 0) (options : Options) (start : Address) (g : GroupData) (fault : ClientFault) (since now : WireState) (taken taken' : Option (List ℕ)) : Type 0 where
  pub asks : AsksSome allows options start g.names (blocks_of (group_tree g)) fault since now
  pub front : WritesGatheredFront g asks.done asks.rest taken taken'
