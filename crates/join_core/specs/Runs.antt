-- Runs of a join: lists of events.
use Rattle.std.specs.Prelude.{ℕ, ◌≡◌, List, [], ◌∷◌, ◌++◌}
use Rattle.std.specs.List.Sorted.{IsPermutation}
use Rattle.request_plan.specs.Rounds.{RoundData}
use Rattle.bgp_core.specs.declared.pattern.Pattern.{Pattern}
use Rattle.bgp_core.specs.Solutions.{Places, solutions}
use Rattle.request_plan.specs.Worlds.{World}
use Rattle.request_plan.specs.Plans.{round_plan}
use Rattle.join_core.specs.Joins.{JoinData, nodes, owed, left_over, HandsOut, TakesPage, GivesRow, Begins}

-- a round was handed out under a ticket, a page came for one, nothing changed (a repeated answer, or a failure), or a row was given
pub data Event : Type 0 where
  Asked : ℕ → RoundData → Event
  Came : ℕ → Event
  Quiet : Event
  Gave : Places → Event

abbrev pub Happens : World → JoinData → Event → JoinData → Type 0
Happens w old (Asked ticket round) new = HandsOut w old new ticket round
Happens w old (Came ticket) new = TakesPage w old new ticket
Happens w old Quiet new = new ≡ old
Happens w old (Gave row) new = GivesRow w old new row

abbrev pub RunsTo : World → JoinData → List Event → JoinData → Type 0
RunsTo w old [] new = old ≡ new
RunsTo w old (e ∷ es) new = (mid : JoinData) × (Happens w old e mid) × RunsTo w mid es new

abbrev pub given : List Event → List Places
given [] = []
given (Asked ticket round ∷ es) = given es
given (Came ticket ∷ es) = given es
given (Quiet ∷ es) = given es
given (Gave row ∷ es) = row ∷ given es

abbrev pub asks : List Event → List RoundData
asks [] = []
asks (Asked ticket round ∷ es) = round ∷ asks es
asks (Came ticket ∷ es) = asks es
asks (Quiet ∷ es) = asks es
asks (Gave row ∷ es) = asks es

-- no node is open, and no row waits
pub record IsDone (j : JoinData) : Type 0 where
  pub nodes : nodes j.levels ≡ []
  pub waiting : j.waiting ≡ []

abbrev pub GivesAll : Type 0
GivesAll = (w : World) (patterns : List Pattern) (row : Places) (old new : JoinData) (es : List Event) → Begins w patterns row old → RunsTo w old es new → IsPermutation (solutions w.triples patterns row) (given es ++ owed w new)

abbrev pub AsksAll : Type 0
AsksAll = (w : World) (patterns : List Pattern) (row : Places) (old new : JoinData) (es : List Event) → Begins w patterns row old → RunsTo w old es new → IsPermutation (round_plan w patterns (row ∷ [])) (asks es ++ left_over w new)

abbrev pub EndsWhole : Type 0
EndsWhole = (w : World) (patterns : List Pattern) (row : Places) (old new : JoinData) (es : List Event) → Begins w patterns row old → RunsTo w old es new → IsDone new → IsPermutation (solutions w.triples patterns row) (given es) × IsPermutation (round_plan w patterns (row ∷ [])) (asks es)
