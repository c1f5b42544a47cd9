-- What a join keeps, whatever pages came.
use Rattle.std.specs.Prelude.{ℕ, suc, ◌≡◌, ◌+◌, ◌*◌, ◌<◌, ◌≤◌, List, length, Option, Some, None}
use Rattle.std.specs.List.{All}
use Rattle.tpf_base.specs.Addresses.{Address}
use Rattle.bgp_core.specs.declared.pattern.Pattern.{Pattern}
use Rattle.template_fill.specs.declared.form.Form.{Form}
use Rattle.request_plan.specs.declared.round.RoundAsk.{RoundAsk}
use Rattle.join_core.specs.declared.first.First.{First}
use Rattle.join_core.specs.declared.first.First.TheVariants.{Out, Got}
use Rattle.join_core.specs.Nodes.{Stage, NodeData, AsksRightly}
use Rattle.join_core.specs.Nodes.Stage.{Asking, Walking}
use Rattle.join_core.specs.Events.{is_full}
use Rattle.join_core.specs.Joins.{JoinData, nodes, tickets_out, NoneIn, open_at, level_at, IsBounded}
use Rattle.request_plan.specs.Evaluations.{Terms, Sizes}
use Rattle.request_plan.specs.Rounds.{RoundData, ShareForms, RoundAtHome, NextRoundAtHome, FormsAtHome}

-- the next round of a page that is held has the authorities
abbrev pub FirstAtHome : List Address → First → Type 0
FirstAtHome homes (Out ticket) = Unit {0}
FirstAtHome homes (Got page) = NextRoundAtHome homes page.next

abbrev pub StageAtHome : List Address → Stage → Type 0
StageAtHome homes (Asking firsts) = All (FirstAtHome homes) firsts
StageAtHome homes (Walking p k next out) = RoundAtHome homes next

-- the addresses of a round come of the forms, or the round is the next of the walk
abbrev pub IsAskedBy : List Form → Stage → RoundData → Type 0
IsAskedBy forms (Asking firsts) round = ShareForms forms round.addresses
IsAskedBy forms (Walking p k next out) round = round ≡ next

-- a round that there may be to ask for has the authorities
abbrev pub AsksRoundAtHome : List Address → Option RoundAsk → Type 0
AsksRoundAtHome homes None = Unit {0}
AsksRoundAtHome homes (Some ask) = RoundAtHome homes ask.round

pub record KeepsNode (terms : Terms) (n : NodeData) : Type 0 where
  pub width : All (λ row. length row ≡ terms.width) n.rows
  pub home : StageAtHome terms.homes n.stage
  pub asking : AsksRightly n.rows n.rest n.stage

-- asks keep to the authorities and rows to the places, no node holds all first pages, since it then chose, and tickets are
-- below the next one
pub record KeepsTo (terms : Terms) (j : JoinData) : Type 0 where
  pub window : 1 ≤ j.window
  pub forms : FormsAtHome terms.homes j.forms
  pub nodes : All (KeepsNode terms) (nodes j.levels)
  pub not_full : NoneIn is_full j.levels
  pub rows : All (λ row. length row ≡ terms.width) j.waiting
  pub tickets : All (λ t. t < j.tickets) (tickets_out j)

-- ---- the bound on open nodes

-- the pages that are held have at most m triples
abbrev pub FirstAtMost : ℕ → First → Type 0
FirstAtMost m (Out ticket) = Unit {0}
FirstAtMost m (Got page) = length page.triples ≤ m

abbrev pub StageAtMost : ℕ → Stage → Type 0
StageAtMost m (Asking firsts) = All (FirstAtMost m) firsts
StageAtMost m (Walking p k next out) = Unit {0}

-- how many patterns have still to be matched
abbrev pub unmatched : List Pattern → Stage → ℕ
unmatched rest (Asking firsts) = length rest
unmatched rest (Walking p k next out) = suc (length rest)

-- with n patterns, a node of depth d has n - d of them to match, and at least one
abbrev pub IsOfDepth : ℕ → ℕ → NodeData → Type 0
IsOfDepth n d x = (unmatched x.rest x.stage + d ≡ n) × (d < n)

-- of n patterns, with pages of at most m triples and blocks of at most so many rows, so that a page opens at most m times so many
-- nodes: one node at most at the top, each node at the depth of its patterns and with no more rows, and the bound for each depth
pub record IsKeptSmall (n m : ℕ) (j : JoinData) : Type 0 where
  pub some : 0 < m
  pub some_rows : 0 < j.block
  pub bounded : IsBounded (m * j.block) j.window j.levels
  pub blocks : All (λ x. length x.rows ≤ j.block) (nodes j.levels)
  pub held : All (λ x. StageAtMost m x.stage) (nodes j.levels)
  pub root : open_at j.levels 0 ≤ 1
  pub depths : (d : ℕ) → All (IsOfDepth n d) (level_at j.levels d)

-- of so many patterns, with pages of no more triples than the longest had, and no more than the window
pub record KeepsSizes (sizes : Sizes) (j : JoinData) : Type 0 where
  pub small : IsKeptSmall sizes.patterns j.longest j
  pub window : j.window ≤ sizes.window
