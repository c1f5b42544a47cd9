-- Who holds what is offered to a call, and what it is for a wire to have them at its other ends.
use Rattle.std.specs.Prelude.{ℕ, ◌≡◌, true, List}
use Rattle.std.specs.List.{AllZip}
use Rattle.tpf_base.specs.Addresses.{Address}
use Rattle.tpf_base.specs.Links.{WireState}
use Rattle.bgp_core.specs.Queries.{QueryData}
use Rattle.tpf_client.specs.Offers.{Publisher, Offer, offer_in_blocks, servers_offer}
use Rattle.tpf_client.specs.Honest.{IsHonestWire}

-- What a call is spoken of over: who may hold the data, what it is for a wire to have them at its other ends, and what they offer to the call.
pub record Ends : Type 1 where
  pub Holder : Type 0
  pub AreHonest : (List ℕ → ℕ → List ℕ → List ℕ → Type 0) → Holder → WireState → Type 0
  pub offer : Holder → Offer

-- over a wire that has them at its other ends
abbrev pub OverEnds : (ends : Ends) → (List ℕ → ℕ → List ℕ → List ℕ → Type 0) → WireState → (ends.Holder → Type 0) → Type 0
OverEnds ends allows since holds = (holder : ends.Holder) → ends.AreHonest allows holder since → holds holder

-- and on which never MOST_IDLE waits follow one another
abbrev pub OverLivelyEnds : (ends : Ends) → (List ℕ → ℕ → List ℕ → List ℕ → Type 0) → WireState → (ends.Holder → Type 0) → Type 0
OverLivelyEnds ends allows since holds = (holder : ends.Holder) → ends.AreHonest allows holder since → since.nature.lively ≡ true → holds holder

-- ---- one server

-- a wire whose other end at the host and the port of a start answers as the server of a publisher does
abbrev pub AnswersAs : (List ℕ → ℕ → List ℕ → List ℕ → Type 0) → WireState → Address → Publisher → Type 0
AnswersAs allows wire start p = IsHonestWire allows start p.history p.config wire

-- one server, which stands at a start, with this offer: that of one query, or of the blocks of one
abbrev pub publisher_ends : Address → (Publisher → Offer) → Ends
publisher_ends start offer = record { Holder = Publisher; AreHonest = λ allows p wire. AnswersAs allows wire start p; offer = offer }

-- one server, of which one query is asked from a start, for at most so many rows at once
abbrev pub ends_in_blocks : ℕ → QueryData → Address → Ends
ends_in_blocks block q start = publisher_ends start (λ p. offer_in_blocks block p q start)

-- the same row by row
abbrev pub server_ends : QueryData → Address → Ends
server_ends = ends_in_blocks 1

-- ---- several servers

-- At each start the other end answers as the server of the publisher at its place does. Of other hosts and ports nothing is said.
abbrev pub AreHonestServers : (List ℕ → ℕ → List ℕ → List ℕ → Type 0) → List Address → List Publisher → WireState → Type 0
AreHonestServers allows starts publishers wire = AllZip (AnswersAs allows wire) starts publishers

-- several servers, of which one query is asked
abbrev pub servers_ends : QueryData → List Address → Ends
servers_ends q starts = record { Holder = List Publisher; AreHonest = λ allows publishers wire. AreHonestServers allows starts publishers wire; offer = λ publishers. servers_offer publishers q starts }
