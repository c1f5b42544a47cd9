-- A join: its nodes by depth, and three multisets of it. Each is a list, up to order.
use Rattle.std.specs.Prelude.{ℕ, suc, ◌≡◌, ◌+◌, ◌<◌, ◌≤◌, ◌*◌, Bool, false, List, [], ◌∷◌, ◌++◌, length, Option, Some, None, slice_index_or, slice_set, nat_lt, if◌then◌else◌, take, true, ◌⊎◌}
use Rattle.std.specs.List.{flat_map, All, count_by, remove, Contains}
use Rattle.std.specs.List.Sorted.{IsPermutation}
use Rattle.request_plan.specs.Rounds.{RoundData}
use Rattle.bgp_core.specs.declared.pattern.Pattern.{Pattern}
use Rattle.bgp_core.specs.Solutions.{Places, solutions}
use Rattle.template_fill.specs.declared.form.Form.{Form}
use Rattle.request_plan.specs.declared.joint_page.JointPage.{JointPage}
use Rattle.join_core.specs.declared.first.First.{First}
use Rattle.join_core.specs.declared.first.First.TheVariants.{Out, Got}
use Rattle.join_core.specs.declared.node.Waits.TheVariants.{First as ForFirst, Next as ForNext}
use Rattle.request_plan.specs.Blocks.{Cut, forms_cut, selection_for}
use Rattle.request_plan.specs.Worlds.{World, IsWorld, HasForms, IsRoundPageAt}
use Rattle.request_plan.specs.Plans.{round_plan}
use Rattle.join_core.specs.Nodes.{Stage, NodeData, future, left, Holds, nodes_in, rows_out}
use Rattle.join_core.specs.Nodes.Stage.{Asking, Walking}
use Rattle.join_core.specs.Events.{works, is_idle, has_ask, is_full, CanAsk, asked, IsNextRound, waits_for, with_first_at, opened_by, out_by, after_by, IsChosen}

pub record JoinData : Type 0 where
  pub forms : List Form
  pub window : ℕ
  pub block : ℕ
  pub tickets : ℕ
  pub longest : ℕ
  pub levels : List (List NodeData)
  pub waiting : List Places

-- how the rows of a page are cut into blocks
abbrev pub cut_in : JoinData → Cut
cut_in j = forms_cut j.forms j.block

abbrev pub nodes : List (List NodeData) → List NodeData
nodes levels = flat_map (λ l. l) levels

-- the rows that wait, and those still to be found
abbrev pub owed : World → JoinData → List Places
owed w j = j.waiting ++ flat_map (future w) (nodes j.levels)

-- the rounds still to be handed out
abbrev pub left_over : World → JoinData → List RoundData
left_over w j = flat_map (left w) (nodes j.levels)

-- the first pages that are out, each by its ticket and the round of its pattern's first page
abbrev pub first_outs : World → List Places → List Pattern → List First → List (ℕ × RoundData)
first_outs w rows [] fs = []
first_outs w rows (p ∷ ps) [] = []
first_outs w rows (p ∷ ps) (Out ticket ∷ fs) = (ticket, w.round (selection_for p rows) 1) ∷ first_outs w rows ps fs
first_outs w rows (p ∷ ps) (Got page ∷ fs) = first_outs w rows ps fs

abbrev pub next_outs : RoundData → Option ℕ → List (ℕ × RoundData)
next_outs next None = []
next_outs next (Some ticket) = (ticket, next) ∷ []

abbrev pub outs_of : World → List Places → List Pattern → Stage → List (ℕ × RoundData)
outs_of w rows rest (Asking fs) = first_outs w rows rest fs
outs_of w rows rest (Walking p k next out) = next_outs next out

abbrev pub outs : World → NodeData → List (ℕ × RoundData)
outs w n = outs_of w n.rows n.rest n.stage

-- the tickets that are out, each with its round
abbrev pub out : World → JoinData → List (ℕ × RoundData)
out w j = flat_map (outs w) (nodes j.levels)

-- ---- the same tickets without their rounds

abbrev pub first_tickets : List First → List ℕ
first_tickets [] = []
first_tickets (Out ticket ∷ fs) = ticket ∷ first_tickets fs
first_tickets (Got page ∷ fs) = first_tickets fs

abbrev pub next_tickets : Option ℕ → List ℕ
next_tickets None = []
next_tickets (Some ticket) = ticket ∷ []

abbrev pub tickets_in : Stage → List ℕ
tickets_in (Asking fs) = first_tickets fs
tickets_in (Walking p k next out) = next_tickets out

abbrev pub tickets_of : NodeData → List ℕ
tickets_of n = tickets_in n.stage

abbrev pub tickets_out : JoinData → List ℕ
tickets_out j = flat_map tickets_of (nodes j.levels)

-- ---- the promises

-- the pages that the join holds are true for a world that has its forms, and whose rounds ask for as many rows
pub record Suits (w : World) (j : JoinData) : Type 0 where
  pub world : IsWorld w
  pub forms : HasForms w j.forms
  pub block : w.block ≡ j.block
  pub holds : All (Holds w) (nodes j.levels)

-- what is owed and what is left to ask stay
pub record Keeps (w : World) (old new : JoinData) : Type 0 where
  pub suits : Suits w new
  pub owed : IsPermutation (owed w old) (owed w new)
  pub left : IsPermutation (left_over w old) (left_over w new)

-- a round was handed out
pub record HandsOut (w : World) (old new : JoinData) (ticket : ℕ) (round : RoundData) : Type 0 where
  pub suits : Suits w new
  pub owed : IsPermutation (owed w old) (owed w new)
  pub left : IsPermutation (left_over w old) (round ∷ left_over w new)
  pub out : IsPermutation (out w new) ((ticket, round) ∷ out w old)

-- the page is true for each round with which the ticket is out
abbrev pub IsTrueFor : World → JoinData → ℕ → JointPage → Type 0
IsTrueFor w j ticket page = (round : RoundData) → Contains (out w j) (ticket, round) → IsRoundPageAt w round page

-- a page was taken
pub record TakesPage (w : World) (old new : JoinData) (ticket : ℕ) : Type 0 where
  pub suits : Suits w new
  pub owed : IsPermutation (owed w old) (owed w new)
  pub left : IsPermutation (left_over w old) (left_over w new)
  pub round : RoundData
  pub out : IsPermutation (out w old) ((ticket, round) ∷ out w new)

-- a row was taken
pub record GivesRow (w : World) (old new : JoinData) (row : Places) : Type 0 where
  pub suits : Suits w new
  pub owed : IsPermutation (owed w old) (row ∷ owed w new)
  pub left : IsPermutation (left_over w old) (left_over w new)
  pub out : out w new ≡ out w old

-- a join before its first event: the solutions are owed, the plan is left to ask, and no ticket is out
pub record Begins (w : World) (patterns : List Pattern) (row : Places) (j : JoinData) : Type 0 where
  pub suits : Suits w j
  pub owed : IsPermutation (solutions w.triples patterns row) (owed w j)
  pub left : IsPermutation (round_plan w patterns (row ∷ [])) (left_over w j)
  pub out : out w j ≡ []

-- the nodes and rows of a join before its first event: the row with all patterns is a node, or waits where there is no
-- pattern; where one cannot be asked for there is nothing
pub record Opens (patterns : List Pattern) (row : Places) (j : JoinData) : Type 0 where
  pub nodes : nodes j.levels ≡ nodes_in (cut_in j) patterns (row ∷ [])
  pub rows : j.waiting ≡ rows_out patterns (row ∷ [])

-- ---- how events change the nodes

-- a node stands among the nodes, and new ones stand in its place
pub record Replaces (old new : List (List NodeData)) (node : NodeData) (made : List NodeData) : Type 0 where
  pub others : List NodeData
  pub before : IsPermutation (nodes old) (node ∷ others)
  pub after : IsPermutation (nodes new) (made ++ others)

-- a node becomes others, with rows put out, rounds handed out and tickets that end or begin
pub record Turn (w : World) (node : NodeData) (rows : List Places) (rounds : List RoundData) (made : List NodeData) : Type 0 where
  pub owed : IsPermutation (future w node) (rows ++ flat_map (future w) made)
  pub left : IsPermutation (left w node) (rounds ++ flat_map (left w) made)
  pub holds : All (Holds w) made

-- there is a node at this place
pub record Stands (levels : List (List NodeData)) (depth index : ℕ) : Type 0 where
  pub deep : depth < length levels
  pub within : index < length (slice_index_or levels depth [])

abbrev pub IsAt : List (List NodeData) → ℕ → ℕ → NodeData → Type 0
IsAt levels depth index n = n ≡ slice_index_or (slice_index_or levels depth []) index n

-- the node after a page, or none
abbrev pub settled : List NodeData → ℕ → Option NodeData → List NodeData
settled l i None = remove l i
settled l i (Some n) = slice_set l i n

-- nodes are added at the end of a level, which may be a new one
abbrev pub levels_after : List (List NodeData) → ℕ → List NodeData → List (List NodeData)
levels_after levels depth made = if nat_lt depth (length levels) then slice_set levels depth (slice_index_or levels depth [] ++ made) else levels ++ made ∷ []

abbrev pub with_levels : JoinData → List (List NodeData) → JoinData
with_levels j levels = record { forms = j.forms; window = j.window; block = j.block; tickets = j.tickets; longest = j.longest; levels = levels; waiting = j.waiting }

-- the same join with another longest page
abbrev pub with_longest : JoinData → ℕ → JoinData
with_longest j longest = record { forms = j.forms; window = j.window; block = j.block; tickets = j.tickets; longest = longest; levels = j.levels; waiting = j.waiting }

abbrev pub with_made : JoinData → List (List NodeData) → List Places → JoinData
with_made j levels rows = record { forms = j.forms; window = j.window; block = j.block; tickets = j.tickets; longest = j.longest; levels = levels; waiting = j.waiting ++ rows }

-- the join after a page made nodes and rows of the node at a place
abbrev pub taken_at : JoinData → ℕ → ℕ → List NodeData → List Places → Option NodeData → JoinData
taken_at j depth index made rows after = with_made j (slice_set (levels_after j.levels (depth + 1) made) depth (settled (slice_index_or j.levels depth []) index after)) rows

-- no node has what the test looks for
abbrev pub NoneIn : (NodeData → Bool) → List (List NodeData) → Type 0
NoneIn test levels = All (λ n. test n ≡ false) (nodes levels)

-- ---- the bound, with m the most triples of a page

abbrev pub level_at : List (List NodeData) → ℕ → List NodeData
level_at levels d = slice_index_or levels d []

abbrev pub open_at : List (List NodeData) → ℕ → ℕ
open_at levels d = length (level_at levels d)

abbrev pub working_at : List (List NodeData) → ℕ → ℕ
working_at levels d = count_by works (level_at levels d)

pub record IsBounded (m window : ℕ) (levels : List (List NodeData)) : Type 0 where
  pub working : count_by works (nodes levels) ≤ window
  pub open_rows : (d : ℕ) → open_at levels (suc d) + m * working_at levels d ≤ m * window

-- ---- what each call makes of a join

-- the join with another node at a place
abbrev pub with_node : JoinData → ℕ → ℕ → NodeData → JoinData
with_node j depth index n = with_levels j (slice_set j.levels depth (slice_set (level_at j.levels depth) index n))

-- the join after the node at a place asked
abbrev pub asked_at : JoinData → ℕ → ℕ → NodeData → JoinData
asked_at j depth index n = record {
  forms = j.forms;
  window = j.window;
  block = j.block;
  tickets = j.tickets + 1;
  longest = j.longest;
  levels = slice_set j.levels depth (slice_set (level_at j.levels depth) index (asked j.tickets n));
  waiting = j.waiting;
}

-- a node may be started: fewer nodes work than the window, no deeper node may be started, and no earlier one of its depth
pub record StartsAt (j : JoinData) (depth index : ℕ) : Type 0 where
  pub room : count_by works (nodes j.levels) < j.window
  pub deeper : (e : ℕ) → depth < e → All (λ n. is_idle n ≡ false) (level_at j.levels e)
  pub earlier : All (λ n. is_idle n ≡ false) (take index (level_at j.levels depth))

-- the node asks next: it was started and has a round to hand out, or no other has one and it is started
abbrev pub MayAsk : JoinData → ℕ → ℕ → NodeData → Type 0
MayAsk j depth index n = (has_ask n ≡ true) ⊎ ((is_idle n ≡ true) × NoneIn has_ask j.levels × StartsAt j depth index)

-- the node at a place asked for a round, its next one
pub record AsksAt (old new : JoinData) (round : RoundData) : Type 0 where
  pub depth : ℕ
  pub index : ℕ
  pub asker : NodeData
  pub stands : Stands old.levels depth index
  pub at : IsAt old.levels depth index asker
  pub can : CanAsk asker
  pub may : MayAsk old depth index asker
  pub next : IsNextRound old.forms asker round
  pub done : new ≡ asked_at old depth index asker

-- the next page of the node at a place was taken
abbrev pub walked_at : JoinData → ℕ → ℕ → NodeData → JointPage → JoinData
walked_at j depth index n page = taken_at j depth index (opened_by (cut_in j) n page.triples) (out_by n page.triples) (after_by n page.next)

-- the first page with the least count was taken, of this node at a place
pub record ChoosesAt (old new : JoinData) (depth index : ℕ) (n : NodeData) : Type 0 where
  pub made : List NodeData
  pub rows : List Places
  pub after : Option NodeData
  pub chosen : IsChosen (cut_in old) n made rows after
  pub done : new ≡ taken_at old depth index made rows after

-- a first page of the node at a place came; where it was the last to come, the pattern with the least count is chosen
abbrev pub TakesFirstAt : JoinData → JoinData → ℕ → ℕ → NodeData → Type 0
TakesFirstAt old new depth index n = ((is_full n ≡ false) × (new ≡ with_node old depth index n)) ⊎ ((is_full n ≡ true) × ChoosesAt old new depth index n)

-- a first page came under a ticket for the node at a place, which waited for it
pub record TakesFirst (old new : JoinData) (ticket : ℕ) (page : JointPage) : Type 0 where
  pub depth : ℕ
  pub index : ℕ
  pub taker : NodeData
  pub first : ℕ
  pub stands : Stands old.levels depth index
  pub at : IsAt old.levels depth index taker
  pub waits : waits_for ticket taker ≡ Some (ForFirst first)
  pub turns : TakesFirstAt old new depth index (with_first_at first (Got page) taker)

-- the next page of a walk came under a ticket for the node at a place, which waited for it
pub record TakesNext (old new : JoinData) (ticket : ℕ) (page : JointPage) : Type 0 where
  pub depth : ℕ
  pub index : ℕ
  pub taker : NodeData
  pub stands : Stands old.levels depth index
  pub at : IsAt old.levels depth index taker
  pub waits : waits_for ticket taker ≡ Some ForNext
  pub done : new ≡ walked_at old depth index taker page
