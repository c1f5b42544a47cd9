-- What taking a row that waits does.
use Rattle.std.specs.Prelude.{ℕ, ◌≡◌, ◌+◌, [], length, Option, MatchOption, ⊤}
use Rattle.bgp_core.specs.Solutions.{Places}
use Rattle.request_plan.specs.Worlds.{World}
use Rattle.request_plan.specs.Evaluations.{Terms}
use Rattle.join_core.specs.Joins.{JoinData, Suits, GivesRow, tickets_out}
use Rattle.join_core.specs.Sound.{KeepsTo, IsKeptSmall}
use Rattle.join_core.specs.Outcomes.{GivesWaiting}

-- A row that waits is taken from a join, and is none exactly where none waits; then nothing changes. The tickets stay, and what the join keeps to.
pub record TakesRow (old new : JoinData) (taken : Option Places) : Type 0 where
  pub none : MatchOption taken (old.waiting ≡ []) (λ r. ⊤)
  pub stays : MatchOption taken (new ≡ old) (λ r. ⊤)
  pub gives : MatchOption taken ⊤ (GivesWaiting old new)
  pub row : (w : World) → Suits w old → MatchOption taken ⊤ (GivesRow w old new)
  pub tickets : tickets_out new ≡ tickets_out old
  pub one : MatchOption taken ⊤ (λ r. length old.waiting ≡ length new.waiting + 1)
  pub keeps : (terms : Terms) → KeepsTo terms old → KeepsTo terms new
  pub width : (terms : Terms) → KeepsTo terms old → MatchOption taken ⊤ (λ r. length r ≡ terms.width)
  pub small : (n m : ℕ) → IsKeptSmall n m old → IsKeptSmall n m new
  pub kept : (new.tickets ≡ old.tickets) × (new.longest ≡ old.longest)
