-- What the calls make of the rounds that are gathered.
use Rattle.std.specs.Prelude.{ℕ, ◌≡◌, ◌≢◌, ◌<◌, Bool, true, false, List, [], ◌∷◌, length, slice_index_or, slice_set, Option, Some, None}
use Rattle.std.specs.List.{All}
use Rattle.std.specs.List.Sorted.{IsPermutation}
use Rattle.tpf_base.specs.Addresses.{Address}
use Rattle.fragment_page.specs.declared.page.Page.{Page}
use Rattle.joint_pages.specs.Gatherings.{GatheringData, HandsPart, TakesPart, AwaitsAt, is_whole}
use Rattle.federation.specs.declared.rounds.Spot.{Spot}
use Rattle.federation.specs.Federations.{all_tickets}

-- ---- places

-- the round at a place wants an address
pub record WantsAt (rounds : List GatheringData) (place : ℕ) : Type 0 where
  pub within : place < length rounds
  pub round : GatheringData
  pub there : round ≡ slice_index_or rounds place round
  pub wants : round.wanted ≢ []

abbrev pub NoneWant : List GatheringData → Type 0
NoneWant rounds = All (λ g. g.wanted ≡ []) rounds

-- the page at a spot is awaited under a ticket
pub record AwaitsIn (rounds : List GatheringData) (spot : Spot) (ticket : ℕ) : Type 0 where
  pub within : spot.round < length rounds
  pub round : GatheringData
  pub there : round ≡ slice_index_or rounds spot.round round
  pub awaits : AwaitsAt round.parts spot.part ticket

-- the ticket is not out
abbrev pub IsUnknown : List GatheringData → ℕ → Type 0
IsUnknown rounds ticket = All (λ t. t ≡ ticket → ⊥) (all_tickets rounds)

-- ---- an address is handed out

-- one of the rounds hands out an address, and the others stay
pub record HandsAmong (old new : List GatheringData) (ticket : ℕ) (address : Address) : Type 0 where
  pub round : GatheringData
  pub after : GatheringData
  pub others : List GatheringData
  pub hands : HandsPart round after ticket address
  pub was : IsPermutation old (round ∷ others)
  pub now : IsPermutation new (after ∷ others)

abbrev pub HandsIn : List GatheringData → List GatheringData → ℕ → Option Address → Type 0
HandsIn old new ticket None = (new ≡ old) × NoneWant old
HandsIn old new ticket (Some address) = HandsAmong old new ticket address

-- ---- a page comes

-- the page was put at its spot, and the round may be whole then
pub record PutsAt (old new : List GatheringData) (spot : Spot) (ticket : ℕ) (page : Page) (whole : Bool) : Type 0 where
  pub round : GatheringData
  pub after : GatheringData
  pub there : round ≡ slice_index_or old spot.round round
  pub takes : TakesPart round after ticket page
  pub now : new ≡ slice_set old spot.round after
  pub is : whole ≡ is_whole after

-- one of the rounds takes it, and the others stay
pub record TakesAmong (old : List GatheringData) (ticket : ℕ) (page : Page) (after : GatheringData) (others : List GatheringData) : Type 0 where
  pub round : GatheringData
  pub takes : TakesPart round after ticket page
  pub was : IsPermutation old (round ∷ others)

-- a page of this round is still awaited
pub record StaysOpen (old new : List GatheringData) (ticket : ℕ) (page : Page) : Type 0 where
  pub after : GatheringData
  pub others : List GatheringData
  pub among : TakesAmong old ticket page after others
  pub now : IsPermutation new (after ∷ others)
  pub open_still : is_whole after ≡ false

-- the round is whole, and gathered no more
pub record ComesOut (old new : List GatheringData) (ticket : ℕ) (page : Page) (after : GatheringData) : Type 0 where
  pub others : List GatheringData
  pub among : TakesAmong old ticket page after others
  pub now : IsPermutation new others
  pub whole : is_whole after ≡ true

abbrev pub TakesIn : List GatheringData → List GatheringData → ℕ → Page → Option GatheringData → Type 0
TakesIn old new ticket page None = StaysOpen old new ticket page
TakesIn old new ticket page (Some after) = ComesOut old new ticket page after
