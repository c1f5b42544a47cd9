-- The evaluation of a query over several servers: a join in rounds, and the rounds whose pages are gathered.
use Rattle.std.specs.Prelude.{ℕ, ◌≡◌, ◌*◌, ◌<◌, ◌≤◌, ◌==◌, ◌&&◌, Bool, false, List, ◌++◌, length, map, Option, Some, None, ⊤}
use Rattle.std.specs.List.{All, Contains, flat_map, count_by}
use Rattle.tpf_base.specs.Addresses.{Address}
use Rattle.fragment_page.specs.declared.page.Page.{Page}
use Rattle.request_plan.specs.Rounds.{RoundData, addresses_in}
use Rattle.request_plan.specs.Worlds.{World}
use Rattle.join_core.specs.Joins.{JoinData, owed, left_over, out, tickets_out, Suits}
use Rattle.join_core.specs.JoinAccounts.{is_over}
use Rattle.request_plan.specs.Evaluations.{Account, Standing, Terms, Sizes, HasHome, NextAtHome}
use Rattle.join_core.specs.Sound.{KeepsTo, IsKeptSmall}
use Rattle.plan_laws.specs.JointWorlds.{joint_world}
use Rattle.joint_pages.specs.Gatherings.{GatheringData, round_of, tickets_of, outs_of, is_whole}
use Rattle.joint_pages.specs.Truths.{AreServers, HoldsTrue}

-- The join; the rounds of which a page is awaited; how many tickets were given, and how many of them are out; and how many may
-- be out at once.
pub record FederationData : Type 0 where
  pub join : JoinData
  pub rounds : List GatheringData
  pub given : ℕ
  pub awaited : ℕ
  pub most : ℕ

-- ---- of all rounds that are gathered

-- the addresses that were not handed out
abbrev pub all_wanted : List GatheringData → List Address
all_wanted rounds = flat_map (λ g. g.wanted) rounds

-- the tickets that are out
abbrev pub all_tickets : List GatheringData → List ℕ
all_tickets rounds = flat_map tickets_of rounds

-- each with its address
abbrev pub all_outs : List GatheringData → List (ℕ × Address)
all_outs rounds = flat_map outs_of rounds

-- the tickets that the rounds have in the join
abbrev pub numbers_of : List GatheringData → List ℕ
numbers_of rounds = map (λ g. g.number) rounds

-- ---- what it owes and shows

-- the rows of the join; the addresses that the rounds still want, and those of the rounds that the join has still to hand out;
-- and the tickets that are out
abbrev pub account_of : List World → FederationData → Account
account_of worlds f = record {
  owed = owed (joint_world worlds) f.join;
  left = all_wanted f.rounds ++ addresses_in (left_over (joint_world worlds) f.join);
  out = all_outs f.rounds;
}

-- the join is over, and no round is gathered
abbrev pub is_done : FederationData → Bool
is_done f = is_over f.join && (length f.rounds == 0)

abbrev pub standing_of : FederationData → Standing
standing_of f = record { given = f.given; out = all_tickets f.rounds; waiting = length f.join.waiting; done = is_done f }

-- ---- what is true of it

-- what is out in the join under the number of a round that is gathered is that round
abbrev pub IsItsRound : World → JoinData → GatheringData → Type 0
IsItsRound w j g = (round : RoundData) → Contains (out w j) (g.number, round) → round ≡ round_of g

-- The pages that came are true for the servers, and so is what the join holds for all of them together; and each round that is
-- gathered is the one that is out in the join under its number.
pub record SuitsAll (worlds : List World) (f : FederationData) : Type 0 where
  pub servers : AreServers worlds
  pub join : Suits (joint_world worlds) f.join
  pub pages : All (HoldsTrue worlds) f.rounds
  pub rounds : All (IsItsRound (joint_world worlds) f.join) f.rounds
  pub numbers : All (λ g. g.number < f.join.tickets) f.rounds
  pub tickets : All (λ o. o.0 < f.join.tickets) (out (joint_world worlds) f.join)

-- ---- what it keeps, whatever pages came

-- how often a number stands among others
abbrev pub times : ℕ → List ℕ → ℕ
times n ns = count_by (λ m. m == n) ns

-- each number stands among the ones as often as among the others
abbrev pub AreSame : List ℕ → List ℕ → Type 0
AreSame ms ns = (n : ℕ) → times n ms ≡ times n ns

-- the further page of a page that came has one of the authorities
abbrev pub PageAtHome : List Address → Option Page → Type 0
PageAtHome homes None = ⊤
PageAtHome homes (Some page) = NextAtHome homes page.next

-- so have the addresses that are still wanted; and a page of the round is awaited
pub record KeepsRound (homes : List Address) (g : GatheringData) : Type 0 where
  pub wanted : All (HasHome homes) g.wanted
  pub pages : All (λ p. PageAtHome homes p.page) g.parts
  pub open_still : is_whole g ≡ false

-- The join and the rounds keep to the terms; the rounds that are out in the join are those that are gathered; and tickets are
-- below the next one, and counted.
pub record KeepsAll (terms : Terms) (f : FederationData) : Type 0 where
  pub join : KeepsTo terms f.join
  pub rounds : All (KeepsRound terms.homes) f.rounds
  pub numbers : AreSame (tickets_out f.join) (numbers_of f.rounds)
  pub tickets : All (λ t. t < f.given) (all_tickets f.rounds)
  pub counted : f.awaited ≡ length (all_tickets f.rounds)

-- Of so many patterns, and for each pattern at most so many pages awaited: the join is small, and there is a pattern where there
-- is a round.
pub record KeepsSmall (sizes : Sizes) (f : FederationData) : Type 0 where
  pub join : IsKeptSmall sizes.patterns f.join.longest f.join
  pub window : 0 < sizes.window
  pub most : f.most ≤ sizes.patterns * sizes.window
  pub rounds : All (λ g. 0 < sizes.patterns) f.rounds
  pub counted : f.awaited ≡ length (all_tickets f.rounds)
  pub few : length (all_tickets f.rounds) ≤ sizes.patterns * sizes.window
