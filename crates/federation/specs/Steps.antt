-- What the calls of a federation make of it.
use Rattle.std.specs.Prelude.{ℕ, Bool, ◌≡◌, ◌==◌, ◌+◌, ◌-◌, ◌<◌, ◌≤◌, ◌⊎◌, List, [], ◌∷◌, ◌++◌, length, Option, Some, None, true}
use Rattle.std.specs.List.{All}
use Rattle.tpf_base.specs.Addresses.{Address}
use Rattle.fragment_page.specs.declared.page.Page.{Page}
use Rattle.bgp_core.specs.Solutions.{Places}
use Rattle.request_plan.specs.declared.evaluation.Ask.{Ask}
use Rattle.request_plan.specs.declared.evaluation.Answered.{Answered}
use Rattle.request_plan.specs.declared.evaluation.Answered.TheVariants.{Taken, Stranger}
use Rattle.request_plan.specs.declared.round.RoundAsk.{RoundAsk}
use Rattle.request_plan.specs.declared.joint_page.JointPage.{JointPage}
use Rattle.request_plan.specs.Worlds.{World}
use Rattle.request_plan.specs.Rounds.{RoundAtHome, NextRoundAtHome}
use Rattle.join_core.specs.Joins.{JoinData, Suits, HandsOut, IsTrueFor, AsksAt, tickets_out}
use Rattle.join_core.specs.TakenRows.{TakesRow}
use Rattle.join_core.specs.Outcomes.{NewTicket, NothingToAsk, AnswerDone, AnswerNumbered, WaitsMore}
use Rattle.request_plan.specs.Evaluations.{Terms}
use Rattle.join_core.specs.Sound.{KeepsTo, IsKeptSmall}
use Rattle.joint_pages.specs.Parts.{pages_in}
use Rattle.joint_pages.specs.Gatherings.{GatheringData, HandsPart, begun, is_whole}
use Rattle.joint_pages.specs.Joined.{joined_as}
use Rattle.joint_pages.specs.Truths.{AreServers, is_one, HoldsTrue, IsJointPageOf}
use Rattle.federation.specs.declared.evaluation.Begun.{Begun}
use Rattle.federation.specs.Federations.{FederationData}
use Rattle.federation.specs.Changes.{NoneWant, IsUnknown, HandsAmong, StaysOpen, ComesOut}

-- ---- asks

-- so many pages are awaited as may be
pub record IsFull (f : FederationData) : Type 0 where
  pub some : 0 < f.awaited
  pub most : f.most ≤ f.awaited

-- no page is awaited, or fewer than may be
abbrev pub HasRoom : FederationData → Type 0
HasRoom f = (f.awaited ≡ 0) ⊎ (f.awaited < f.most)

-- an address of a round that is gathered was handed out
pub record AsksPart (old new : FederationData) (ticket : ℕ) (address : Address) : Type 0 where
  pub rounds : List GatheringData
  pub number : ticket ≡ old.given
  pub hands : HandsAmong old.rounds rounds ticket address
  pub done : new ≡ record { join = old.join; rounds = rounds; given = old.given + 1; awaited = old.awaited + 1; most = old.most }

abbrev pub AskedPart : FederationData → FederationData → Option Ask → Type 0
AskedPart old new None = (new ≡ old) × NoneWant old.rounds
AskedPart old new (Some ask) = AsksPart old new ask.ticket ask.address

-- the join handed out a round
pub record AsksJoin (old new : JoinData) (ask : RoundAsk) : Type 0 where
  pub handed : (w : World) → Suits w old → HandsOut w old new ask.ticket ask.round
  pub numbered : NewTicket old new ask.ticket
  pub starts : AsksAt old new ask.round
  pub keeps : (terms : Terms) → KeepsTo terms old → KeepsTo terms new
  pub at_home : (terms : Terms) → KeepsTo terms old → RoundAtHome terms.homes ask.round
  pub small : (n m : ℕ) → IsKeptSmall n m old → IsKeptSmall n m new

-- the first address of this round was handed out at once
pub record BeginsRound (old new : JoinData) (ticket : ℕ) (begins : Begun) : Type 0 where
  pub ask : RoundAsk
  pub joins : AsksJoin old new ask
  pub hands : HandsPart (begun ask) begins.gathering ticket begins.address

abbrev pub BeginsNext : JoinData → JoinData → ℕ → Option Begun → Type 0
BeginsNext old new ticket None = (new ≡ old) × NothingToAsk old
BeginsNext old new ticket (Some begins) = BeginsRound old new ticket begins

pub record AsksRound (old new : FederationData) (ticket : ℕ) (address : Address) : Type 0 where
  pub join : JoinData
  pub gathering : GatheringData
  pub number : ticket ≡ old.given
  pub begins : BeginsRound old.join join ticket (record { gathering = gathering; address = address })
  pub done : new ≡ record { join = join; rounds = old.rounds ++ gathering ∷ []; given = old.given + 1; awaited = old.awaited + 1; most = old.most }

abbrev pub AskedRound : FederationData → FederationData → Option Ask → Type 0
AskedRound old new None = (new ≡ old) × NothingToAsk old.join
AskedRound old new (Some ask) = AsksRound old new ask.ticket ask.address

-- an address was handed out, of a round that is gathered or of the next one
pub record AsksOne (old new : FederationData) (ask : Ask) : Type 0 where
  pub room : HasRoom old
  pub asked : AsksPart old new ask.ticket ask.address ⊎ AsksRound old new ask.ticket ask.address

-- nothing changed, and there is no address to hand out, or so many pages are awaited as may be
pub record AsksNone (old new : FederationData) : Type 0 where
  pub same : new ≡ old
  pub ends : IsFull old ⊎ (NoneWant old.rounds × NothingToAsk old.join)

abbrev pub Asks : FederationData → FederationData → Option Ask → Type 0
Asks old new None = AsksNone old new
Asks old new (Some ask) = AsksOne old new ask

-- ---- answers

-- the join took the page of a round
pub record AnswersJoin (old new : JoinData) (ticket : ℕ) (page : JointPage) (answered : Answered) : Type 0 where
  pub taken : (w : World) → Suits w old → IsTrueFor w old ticket page → AnswerDone w old new ticket answered
  pub numbered : AnswerNumbered old new ticket answered
  pub stranger : answered ≡ Stranger → All (λ t. t ≡ ticket → ⊥) (tickets_out old)
  pub keeps : (terms : Terms) → KeepsTo terms old → NextRoundAtHome terms.homes page.next → KeepsTo terms new
  pub small : (n : ℕ) → IsKeptSmall n old.longest old → IsKeptSmall n new.longest new
  pub grows : WaitsMore old new
  pub tickets : new.tickets ≡ old.tickets

-- this page is the joint page of the round, that of one server alone or of several
pub record JoinsRound (old new : JoinData) (g : GatheringData) (answered : Answered) : Type 0 where
  pub page : JointPage
  pub alone : Bool
  pub is_alone : alone ≡ (length old.forms == 1)
  pub is : page ≡ joined_as alone g.taken (pages_in g.parts)
  pub together : (worlds : List World) → AreServers worlds → alone ≡ is_one worlds → HoldsTrue worlds g → is_whole g ≡ true → IsJointPageOf worlds g page
  pub joins : AnswersJoin old new g.number page answered

-- a page was taken, and another of its round is awaited
pub record TakesOne (old new : FederationData) (ticket : ℕ) (page : Page) : Type 0 where
  pub rounds : List GatheringData
  pub stays : StaysOpen old.rounds rounds ticket page
  pub done : new ≡ record { join = old.join; rounds = rounds; given = old.given; awaited = old.awaited - 1; most = old.most }

-- the last page of its round was taken, and the join took the round
pub record TakesLast (old new : FederationData) (ticket : ℕ) (page : Page) : Type 0 where
  pub join : JoinData
  pub rounds : List GatheringData
  pub after : GatheringData
  pub answered : Answered
  pub comes : ComesOut old.rounds rounds ticket page after
  pub joins : JoinsRound old.join join after answered
  pub done : new ≡ record { join = join; rounds = rounds; given = old.given; awaited = old.awaited - 1; most = old.most }

abbrev pub Answers : FederationData → FederationData → ℕ → Page → Answered → Type 0
Answers old new ticket page Stranger = (new ≡ old) × IsUnknown old.rounds ticket
Answers old new ticket page Taken = TakesOne old new ticket page ⊎ TakesLast old new ticket page

-- ---- rows

-- a row of the join was given, if one waits, and nothing else changed
pub record GivesOne (old new : FederationData) (row : Option Places) : Type 0 where
  pub join : JoinData
  pub done : new ≡ record { join = join; rounds = old.rounds; given = old.given; awaited = old.awaited; most = old.most }
  pub takes : TakesRow old.join join row
