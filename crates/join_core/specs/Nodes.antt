-- The nodes of a join, what is owed for them, and what they have still to ask (Verborgh et al., Triple Pattern Fragments; in blocks of rows Hartig and Buil-Aranda, bindings-restricted Triple Pattern Fragments).
use Rattle.std.specs.Prelude.{ℕ, suc, ◌≡◌, ◌+◌, ◌<◌, ◌≤◌, Bool, true, false, List, [], ◌∷◌, ◌++◌, length, map, Option, Some, None, ⊤}
use Rattle.std.specs.List.{All, AllByRecursion}
use Rattle.rdf_terms.specs.declared.term.Triple.{Triple}
use Rattle.rdf_terms.specs.Selections.{Selection, IsValidSelection}
use Rattle.bgp_core.specs.declared.pattern.Pattern.{Pattern}
use Rattle.bgp_core.specs.Solutions.{Places}
use Rattle.bgp_core.specs.Queries.{IsValidPattern}
use Rattle.request_plan.specs.Rounds.{RoundData}
use Rattle.request_plan.specs.Blocks.{Cut, blocks, selection_for, is_askable}
use Rattle.request_plan.specs.Worlds.{World, items_after, IsPageAfter}
use Rattle.request_plan.specs.Plans.{found, solutions_under, all_askable, askable_rows, rounds_after, asking_plan, plans_over, round_plan, IsValidRow}
use Rattle.join_core.specs.declared.first.First.{First}
use Rattle.join_core.specs.declared.first.First.TheVariants.{Out, Got}

-- asking: the first pages of the patterns at the front, none of them for a fresh node
-- walking: the chosen pattern, how many of its pages were taken, the next one's round, and its ticket once it was handed out
pub data Stage : Type 0 where
  Asking : List First → Stage
  Walking : Pattern → ℕ → RoundData → Option ℕ → Stage

-- a block of rows; the rest does not hold the chosen pattern
pub record NodeData : Type 0 where
  pub rows : List Places
  pub rest : List Pattern
  pub stage : Stage

-- ---- what is owed for a node

abbrev pub future_of : World → List Places → List Pattern → Stage → List Places
future_of w rows rest (Asking firsts) = solutions_under w rest rows
future_of w rows rest (Walking p k next out) = solutions_under w rest (found p rows (items_after w (selection_for p rows) k))

-- the rows that the node has still to give: all its solutions, or those by the triples after the pages that were taken
abbrev pub future : World → NodeData → List Places
future w n = future_of w n.rows n.rest n.stage

-- ---- what a node has still to ask

abbrev pub taken : Option ℕ → ℕ
taken None = 0
taken (Some ticket) = 1

abbrev pub left_of : World → List Places → List Pattern → Stage → List RoundData
left_of w rows rest (Asking firsts) = asking_plan w (round_plan w) (length firsts) rest rows
left_of w rows rest (Walking p k next out) = rounds_after w (selection_for p rows) (k + taken out) ++ plans_over w (round_plan w) p rest rows k

-- the rounds that the node and those that it will open have still to hand out
abbrev pub left : World → NodeData → List RoundData
left w n = left_of w n.rows n.rest n.stage

-- ---- what a page opens

abbrev pub fresh : List Pattern → List Places → NodeData
fresh ps rows = record { rows = rows; rest = ps; stage = Asking [] }

-- rows with no pattern left are put out
abbrev pub rows_out : List Pattern → List Places → List Places
rows_out [] rows = rows
rows_out (p ∷ ps) rows = []

-- of the others those become blocks under which all patterns can be asked for, since under any other one has no solution
abbrev pub nodes_in : Cut → List Pattern → List Places → List NodeData
nodes_in cut [] rows = []
nodes_in cut (p ∷ ps) rows = map (fresh (p ∷ ps)) (blocks cut (p ∷ ps) (askable_rows (p ∷ ps) rows))

abbrev pub put_out : Pattern → List Pattern → List Places → List Triple → List Places
put_out p others rows ts = rows_out others (found p rows ts)

abbrev pub opened : Cut → Pattern → List Pattern → List Places → List Triple → List NodeData
opened cut p others rows ts = nodes_in cut others (found p rows ts)

-- ---- what a node holds is true

abbrev pub FirstHolds : World → Selection → First → Type 0
FirstHolds w s (Out ticket) = ⊤
FirstHolds w s (Got page) = IsPageAfter w s 0 page

-- the first pages belong to the patterns at the front
abbrev pub FirstsHold : World → List Places → List Pattern → List First → Type 0
FirstsHold w rows ps [] = ⊤
FirstsHold w rows [] (f ∷ fs) = ⊥
FirstsHold w rows (p ∷ ps) (f ∷ fs) = FirstHolds w (selection_for p rows) f × FirstsHold w rows ps fs

pub record WalkHolds (w : World) (s : Selection) (k : ℕ) (round : RoundData) : Type 0 where
  pub more : k < w.last s
  pub next : round ≡ w.round s (suc k)
  pub askable : is_askable s ≡ true
  pub valid : IsValidSelection s

abbrev pub StageHolds : World → List Places → List Pattern → Stage → Type 0
StageHolds w rows rest (Asking firsts) = FirstsHold w rows rest firsts
StageHolds w rows rest (Walking p k next out) = WalkHolds w (selection_for p rows) k next

-- a node that asks has rows and patterns, all of which can be asked for under each row, and no more first pages than patterns
pub record IsAsking (rows : List Places) (rest : List Pattern) (firsts : List First) : Type 0 where
  pub some_rows : 0 < length rows
  pub some : 0 < length rest
  pub within : length firsts ≤ length rest
  pub askable : All (λ row. all_askable row rest ≡ true) rows

abbrev pub AsksRightly : List Places → List Pattern → Stage → Type 0
AsksRightly rows rest (Asking firsts) = IsAsking rows rest firsts
AsksRightly rows rest (Walking p k next out) = ⊤

pub record Holds (w : World) (n : NodeData) : Type 0 where
  pub stage : StageHolds w n.rows n.rest n.stage
  pub rows : All IsValidRow n.rows
  pub few : length n.rows ≤ w.block
  pub patterns : AllByRecursion IsValidPattern n.rest
  pub asking : AsksRightly n.rows n.rest n.stage

abbrev pub is_got : First → Bool
is_got (Out ticket) = false
is_got (Got page) = true

abbrev pub count_of : First → ℕ
count_of (Out ticket) = 0
count_of (Got page) = page.count

-- what comes after a page: the walk goes on at the next round, or there is no further page
abbrev pub GoesOn : World → Selection → ℕ → Option RoundData → Type 0
GoesOn w s k None = w.last s ≤ k
GoesOn w s k (Some round) = (k < w.last s) × (round ≡ w.round s (suc k))

abbrev pub node : List Places → List Pattern → Stage → NodeData
node rows rest stage = record { rows = rows; rest = rest; stage = stage }

-- the walk after k pages, where it goes on
abbrev pub walk_on : Pattern → List Pattern → List Places → ℕ → Option RoundData → List NodeData
walk_on p others rows k None = []
walk_on p others rows k (Some round) = node rows others (Walking p k round None) ∷ []
