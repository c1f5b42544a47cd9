-- A round whose pages are gathered, and what each call makes of it.
use Rattle.std.specs.Prelude.{ℕ, ◌≡◌, ◌<◌, ◌&&◌, ◌==◌, Bool, List, [], ◌∷◌, ◌++◌, length, map, slice_index_or, Option, Some, None}
use Rattle.std.specs.List.{All}
use Rattle.tpf_base.specs.Addresses.{Address}
use Rattle.rdf_terms.specs.declared.term.Triple.{Triple}
use Rattle.fragment_page.specs.declared.page.Page.{Page}
use Rattle.request_plan.specs.Rounds.{RoundData}
use Rattle.request_plan.specs.declared.round.RoundAsk.{RoundAsk}
use Rattle.joint_pages.specs.Parts.{PartData, Awaits, awaited, came, tickets_in, outs_in, are_there}

-- The ticket of the round, the addresses that are still to be asked for, the pages that were asked for, and the triples that
-- came before the round.
pub record GatheringData : Type 0 where
  pub number : ℕ
  pub wanted : List Address
  pub parts : List PartData
  pub taken : List Triple

-- the round: the addresses that were asked for, and those that were not
abbrev pub round_of : GatheringData → RoundData
round_of g = record { addresses = map (λ p. p.address) g.parts ++ g.wanted; taken = g.taken }

-- the tickets that are out
abbrev pub tickets_of : GatheringData → List ℕ
tickets_of g = tickets_in g.parts

-- each with its address
abbrev pub outs_of : GatheringData → List (ℕ × Address)
outs_of g = outs_in g.parts

-- every address was asked for, and every page came
abbrev pub is_whole : GatheringData → Bool
is_whole g = (length g.wanted == 0) && are_there g.parts

-- ---- what the calls make of it

-- of the round nothing was asked for yet
abbrev pub begun : RoundAsk → GatheringData
begun ask = record { number = ask.ticket; wanted = ask.round.addresses; parts = []; taken = ask.round.taken }

-- the first address that was wanted is asked for under a ticket
pub record HandsPart (old new : GatheringData) (ticket : ℕ) (address : Address) : Type 0 where
  pub wanted : old.wanted ≡ address ∷ new.wanted
  pub parts : new.parts ≡ old.parts ++ awaited ticket address ∷ []
  pub number : new.number ≡ old.number
  pub taken : new.taken ≡ old.taken

-- an address was handed out; or none was wanted, and nothing changed
abbrev pub HandsNext : GatheringData → GatheringData → ℕ → Option Address → Type 0
HandsNext old new ticket None = (old.wanted ≡ []) × (new ≡ old)
HandsNext old new ticket (Some address) = HandsPart old new ticket address

-- a page came for a part that awaited it
pub record TakesPart (old new : GatheringData) (ticket : ℕ) (page : Page) : Type 0 where
  pub before : List PartData
  pub part : PartData
  pub after : List PartData
  pub was : old.parts ≡ before ++ part ∷ after
  pub awaits : Awaits part ticket
  pub now : new.parts ≡ before ++ came part page ∷ after
  pub wanted : new.wanted ≡ old.wanted
  pub number : new.number ≡ old.number
  pub taken : new.taken ≡ old.taken

-- the part at a place awaits its page under a ticket
pub record AwaitsAt (parts : List PartData) (place ticket : ℕ) : Type 0 where
  pub within : place < length parts
  pub part : PartData
  pub there : part ≡ slice_index_or parts place part
  pub awaits : Awaits part ticket

-- the ticket is not out
abbrev pub IsStranger : List PartData → ℕ → Type 0
IsStranger parts ticket = All (λ t. t ≡ ticket → ⊥) (tickets_in parts)
