-- What a run gives and asks.
use Rattle.std.proofs.Common.{◌≡◌, List, [], ◌∷◌, ◌++◌, ap, sym, subst, ◌∙◌, append-nil}
use Rattle.std.specs.List.{flat_map}
use Rattle.std.specs.List.Sorted.{IsPermutation}
use Rattle.std.proofs.lemmas.List.Sorted.{IsPermutation-trans, IsPermutation-cons}
use Rattle.list_laws.proofs.Orders.{same}
use Rattle.request_plan.specs.Rounds.{RoundData}
use Rattle.bgp_core.specs.declared.pattern.Pattern.{Pattern}
use Rattle.bgp_core.specs.Solutions.{Places, solutions}
use Rattle.request_plan.specs.Worlds.{World}
use Rattle.request_plan.specs.Plans.{round_plan}
use Rattle.join_core.specs.Nodes.{NodeData, left, future}
use Rattle.join_core.specs.Joins.{JoinData, nodes, owed, left_over, Begins}
use Rattle.join_core.specs.Runs.{Event, RunsTo, given, asks, IsDone}
use Rattle.join_core.specs.Runs.Event.{Asked, Came, Quiet, Gave}

pub record IsAccount (w : World) (old new : JoinData) (es : List Event) : Type 0 where
  pub rows : IsPermutation (owed w old) (given es ++ owed w new)
  pub rounds : IsPermutation (left_over w old) (asks es ++ left_over w new)

pub account : (w : World) (old new : JoinData) (es : List Event) → RunsTo w old es new → IsAccount w old new es
account w old new [] e = record { rows = same _ _ (ap (λ (j : JoinData). owed w j) e); rounds = same _ _ (ap (λ (j : JoinData). left_over w j) e) }
account w old new (Quiet ∷ es) r =
    let a = account w r.0 new es r.2 in
    record { rows = IsPermutation-trans _ _ _ (same _ _ (ap (λ (j : JoinData). owed w j) (sym r.1))) a.rows; rounds = IsPermutation-trans _ _ _ (same _ _ (ap (λ (j : JoinData). left_over w j) (sym r.1))) a.rounds }
account w old new (Came ticket ∷ es) r =
    let a = account w r.0 new es r.2 in
    record { rows = IsPermutation-trans _ _ _ r.1.owed a.rows; rounds = IsPermutation-trans _ _ _ r.1.left a.rounds }
account w old new (Asked ticket round ∷ es) r =
    let a = account w r.0 new es r.2 in
    record { rows = IsPermutation-trans _ _ _ r.1.owed a.rows; rounds = IsPermutation-trans _ _ _ r.1.left (IsPermutation-cons round _ _ a.rounds) }
account w old new (Gave row ∷ es) r =
    let a = account w r.0 new es r.2 in
    record { rows = IsPermutation-trans _ _ _ r.1.owed (IsPermutation-cons row _ _ a.rows); rounds = IsPermutation-trans _ _ _ r.1.left a.rounds }

pub gives-all : (w : World) (patterns : List Pattern) (row : Places) (old new : JoinData) (es : List Event) → Begins w patterns row old → RunsTo w old es new → IsPermutation (solutions w.triples patterns row) (given es ++ owed w new)
gives-all w patterns row old new es b r = IsPermutation-trans _ _ _ b.owed (account w old new es r).rows

pub asks-all : (w : World) (patterns : List Pattern) (row : Places) (old new : JoinData) (es : List Event) → Begins w patterns row old → RunsTo w old es new → IsPermutation (round_plan w patterns (row ∷ [])) (asks es ++ left_over w new)
asks-all w patterns row old new es b r = IsPermutation-trans _ _ _ b.left (account w old new es r).rounds

pub done-owed : (w : World) (j : JoinData) → IsDone j → owed w j ≡ []
done-owed w j d = ap (λ (l : List Places). l ++ flat_map (future w) (nodes j.levels)) d.waiting ∙ ap (λ (l : List NodeData). flat_map (future w) l) d.nodes

pub done-left : (w : World) (j : JoinData) → IsDone j → left_over w j ≡ []
done-left w j d = ap (λ (l : List NodeData). flat_map (left w) l) d.nodes

pub ends-whole : (w : World) (patterns : List Pattern) (row : Places) (old new : JoinData) (es : List Event) → Begins w patterns row old → RunsTo w old es new → IsDone new → IsPermutation (solutions w.triples patterns row) (given es) × IsPermutation (round_plan w patterns (row ∷ [])) (asks es)
ends-whole w patterns row old new es b r d = (
  subst (λ (l : List Places). IsPermutation (solutions w.triples patterns row) l) (ap (λ (l : List Places). given es ++ l) (done-owed w new d) ∙ append-nil (given es)) (gives-all w patterns row old new es b r),
  subst (λ (l : List RoundData). IsPermutation (round_plan w patterns (row ∷ [])) l) (ap (λ (l : List RoundData). asks es ++ l) (done-left w new d) ∙ append-nil (asks es)) (asks-all w patterns row old new es b r),
)
