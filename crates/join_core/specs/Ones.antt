-- A join over one server: each round has one address.
use Rattle.std.specs.Prelude.{ℕ, ◌≡◌, List, ◌∷◌, Option, Some, None, map}
use Rattle.std.specs.Option.{option_map}
use Rattle.std.specs.List.{flat_map}
use Rattle.tpf_base.specs.Addresses.{Address}
use Rattle.request_plan.specs.declared.evaluation.Ask.{Ask}
use Rattle.request_plan.specs.declared.round.RoundAsk.{RoundAsk}
use Rattle.request_plan.specs.Rounds.{RoundData, round_of_one}
use Rattle.request_plan.specs.Worlds.{World, IsOneServer}
use Rattle.join_core.specs.Joins.{JoinData, Suits, AsksAt}

-- the world is that of one server, and the join suits it
abbrev pub SuitsOne : World → JoinData → Type 0
SuitsOne w j = IsOneServer w × Suits w j

-- an ask as that of a round
abbrev pub round_ask : Option Ask → Option RoundAsk
round_ask ask = option_map (λ a. record { ticket = a.ticket; round = round_of_one a.address }) ask

-- the address is the first of the next round of the node that asks next
pub record AsksFirstAt (old new : JoinData) (address : Address) : Type 0 where
  pub round : RoundData
  pub others : List Address
  pub addresses : round.addresses ≡ address ∷ others
  pub asks : AsksAt old new round

-- the ask is that of the node that asks next
abbrev pub AskStartsOne : JoinData → JoinData → Option Ask → Type 0
AskStartsOne old new None = new ≡ old
AskStartsOne old new (Some ask) = AsksFirstAt old new ask.address

-- tickets that are out, each with its round, by the addresses of these
abbrev pub pairs_in : List (ℕ × RoundData) → List (ℕ × Address)
pairs_in outs = flat_map (λ out. map (λ address. (out.0, address)) out.1.addresses) outs
