-- What a call sends, how many requests it makes and why it ends with a fault, over wires whose other ends answer as a server does.
use Rattle.std.specs.Prelude.{ℕ, ◌≡◌, ◌≢◌, ◌≤◌, ◌<◌, ◌+◌, ◌-◌, ◌^◌, ◌++◌, ◌⊎◌, true, false, List, length, Option, Some}
use Rattle.std.specs.List.{AllByRecursion, Contains}
use Rattle.std.specs.List.Sorted.{IsPermutation}
use Rattle.rdf_terms.specs.declared.term.Triple.{Triple}
use Rattle.rdf_terms.specs.Selections.{Selection, selected_last}
use Rattle.tpf_base.specs.Addresses.{Address, target_of}
use Rattle.tpf_base.specs.Causes.{Rose, RoseBy}
use Rattle.tpf_base.specs.declared.limits.TheConstants.{HEAD_LIMIT}
use Rattle.tpf_base.specs.Links.{WireState}
use Rattle.tpf_base.specs.Marks.{Served}
use Rattle.template_fill.specs.HttpAnswer.{Answer}
use Rattle.template_fill.specs.Metadata.{Config}
use Rattle.template_fill.specs.Answers.{answer_to, AsksFor}
use Rattle.template_fill.specs.Bodies.{version_of}
use Rattle.http_wire.specs.declared.message.ReplyFault.{ReplyFault}
use Rattle.http_wire.specs.declared.message.ReplyFault.TheVariants as refusals
use Rattle.http_ends.specs.Requests.{asks, request_for}
use Rattle.pool_laws.specs.Honest.{IsAnsweredByAll}
use Rattle.fragment_page.specs.declared.page.Page.{Page}
use Rattle.control_reader.specs.Takes.{Takes}
use Rattle.pool_laws.specs.Answers.{HasLongBody}
use Rattle.pool_laws.specs.Provoking.{SparesWire}
use Rattle.pool_laws.specs.Sending.{SendsFor}
use Rattle.tpf_client.specs.declared.options.Options.{Options}
use Rattle.tpf_client.specs.declared.options.Report.{Report}
use Rattle.tpf_client.specs.declared.fault.ClientFault.{ClientFault}
use Rattle.tpf_client.specs.declared.fault.ClientFault.TheVariants as faults
use Rattle.tpf_client.specs.Offers.{Publisher, Offer, IsVersionOf}
use Rattle.tpf_client.specs.Honest.{IsHonestWire}
use Rattle.tpf_client.specs.Requests.{DialsAtMost, GivesAtMost}

-- ---- what was sent

-- on each link that was given in the call, where the wire tells, whole requests for these addresses were sent, and then nothing or a front of the request for one of them
abbrev pub SendsOnly : List Address → WireState → WireState → Type 0
SendsOnly addresses since now = (k : ℕ) → since.given ≤ k → k < now.given → SendsFor (Contains addresses) (now.links k)

-- Only for these addresses requests were sent, and each was asked for at most as often as one of the choices has it to ask for.
pub record AsksPlan (offer : Offer) (since now : WireState) : Type 0 where
  pub choice : offer.Choice
  pub is_choice : offer.IsChoice choice
  pub asked : List Address
  pub rest : List Address
  pub plan_is : IsPermutation (offer.addresses choice) (asked ++ rest)
  pub sent : SendsOnly asked since now

-- ---- what a server answers

-- over a wire whose other end at the host and the port of a start answers as a server of some history and configuration does
abbrev pub OverHonest : (List ℕ → ℕ → List ℕ → List ℕ → Type 0) → Address → WireState → (List (List Triple) → Config → Type 0) → Type 0
OverHonest allows start since holds = (history : List (List Triple)) (config : Config) → IsHonestWire allows start history config since → holds history config

-- of an address, by each server that stands there
abbrev pub AtEach : Offer → (Publisher → Address → Type 0) → Address → Type 0
AtEach offer holds address = (p : Publisher) → offer.StandsAt address p → holds p address

-- of each address that one of the choices has to ask for
abbrev pub InPlans : Offer → (Publisher → Address → Type 0) → Type 0
InPlans offer holds = (choice : offer.Choice) → offer.IsChoice choice → AllByRecursion (AtEach offer holds) (offer.addresses choice)

-- the request for the address is within the limit of heads
abbrev pub IsShort : Address → Type 0
IsShort address = length (request_for address) ≤ HEAD_LIMIT

-- what a version answers to the request for an address
abbrev pub answer_at : Publisher → ℕ → Address → Answer
answer_at p version address = answer_to p.history (Served version) p.config (asks address)

-- each version that answers the address with status 200 gives a body that is read as a page of it
abbrev pub IsReadByAll : Publisher → Address → Type 0
IsReadByAll p address =
    (version : ℕ) → IsVersionOf p.history version → (answer_at p version address).status ≡ 200 → (page : Page) × Takes (answer_at p version address).body address page

-- and a body of at most so many bytes
abbrev pub IsSmallByAll : ℕ → Publisher → Address → Type 0
IsSmallByAll most p address =
    (version : ℕ) → IsVersionOf p.history version → (answer_at p version address).status ≡ 200 → length (answer_at p version address).body ≤ most

-- the request for the address is within the limit of heads, and each version answers it with status 200
pub record IsAnswerable (p : Publisher) (address : Address) : Type 0 where
  pub short : IsShort address
  pub answered : IsAnsweredByAll p.history p.config address

-- each version answers it so, with a body of at most so many bytes that is read as a page
pub record IsFit (most : ℕ) (p : Publisher) (address : Address) : Type 0 where
  pub is_answered : IsAnswerable p address
  pub is_read : IsReadByAll p address
  pub is_small : IsSmallByAll most p address

-- ---- what the version of a choice answers

-- of an address, by the version that a choice has of each server that stands there
abbrev pub AtChosen : (offer : Offer) → offer.Choice → (Publisher → ℕ → Address → Type 0) → Address → Type 0
AtChosen offer choice holds address =
    (p : Publisher) (version : ℕ) → offer.StandsAt address p → offer.HasVersion choice address version → holds p version address

-- the request for the address is within the limit of heads, and this version answers it with status 200
pub record IsAnsweredAt (p : Publisher) (version : ℕ) (address : Address) : Type 0 where
  pub short : IsShort address
  pub answered : (answer_at p version address).status ≡ 200

-- this version answers it so, with a body of at most so many bytes that is read as a page
pub record IsFitAt (most : ℕ) (p : Publisher) (version : ℕ) (address : Address) : Type 0 where
  pub is_answered : IsAnsweredAt p version address
  pub page : Page
  pub is_read : Takes (answer_at p version address).body address page
  pub is_small : length (answer_at p version address).body ≤ most

-- the address asks for a page of a fragment that one version has, and that is past the last one of another
pub record HasFewerPages (p : Publisher) (address : Address) (version other : ℕ) : Type 0 where
  pub selection : Selection
  pub page : ℕ
  pub asks : AsksFor p.config selection page (target_of address)
  pub is_there : page ≤ selected_last (version_of p.history version) selection p.config.page_size
  pub is_past : selected_last (version_of p.history other) selection p.config.page_size < page

-- ---- how many requests there are

-- No more requests were started, dials made and links given than one of the choices has addresses to ask for and the wire's faults rose; `Started` says which number is that of the requests.
pub record CountsRises (Started : ℕ → Type 0) (offer : Offer) (since now : WireState) : Type 0 where
  pub choice : offer.Choice
  pub is_choice : offer.IsChoice choice
  pub rises : ℕ
  pub rose : RoseBy rises since.faults now.faults
  pub started : ℕ
  pub is_started : Started started
  pub few : started ≤ length (offer.addresses choice) + rises
  pub dials : DialsAtMost (length (offer.addresses choice) + rises) since now
  pub given : GivesAtMost (length (offer.addresses choice) + rises) since now

-- As many requests were started as the choice that is reported has addresses to ask for, or more, and no more than these and the rises of the wire's faults: exactly as many where these did not rise.
pub record PacesRequests (offer : Offer) (report : Report) (since now : WireState) : Type 0 where
  pub choice : offer.Choice
  pub is_choice : offer.IsChoice choice
  pub is_reported : offer.IsReported choice report.version
  pub each : length (offer.addresses choice) ≤ report.requests
  pub rises : ℕ
  pub rose : RoseBy rises since.faults now.faults
  pub few : report.requests ≤ length (offer.addresses choice) + rises
  pub exact : (Rose since.faults now.faults → ⊥) → report.requests ≡ length (offer.addresses choice)

-- ---- causes over an honest wire

-- this address has, by a server that stands there, a body that is longer than the limit, and a front of that answer was received
pub record HasLongPage (offer : Offer) (limit : ℕ) (addresses : List Address) (received : List ℕ) : Type 0 where
  pub address : Address
  pub is_asked : Contains addresses address
  pub server : Publisher
  pub stands : offer.StandsAt address server
  pub long : HasLongBody server.history server.config limit address received

-- the reply is a front of an answer of the server for the address, over one of its versions, whose body is longer than the limit
pub record IsLongAnswer (p : Publisher) (limit : ℕ) (address : Address) (fault : ReplyFault) (received : List ℕ) : Type 0 where
  pub is_fault : fault ≡ refusals.TooLong
  pub long : HasLongBody p.history p.config limit address received

-- the reply has status 404, since another version than the one that the choice has there has fewer pages
pub record IsPageGone (offer : Offer) (choice : offer.Choice) (p : Publisher) (address : Address) (fault : ReplyFault) : Type 0 where
  pub is_fault : fault ≡ refusals.Status 404
  pub version : ℕ
  pub has : offer.HasVersion choice address version
  pub other : ℕ
  pub is_other : IsVersionOf p.history other
  pub fewer : HasFewerPages p address version other

-- of an address that the choice has to ask for the reply is so, by a server that stands there
pub record RefusesFor (offer : Offer) (options : Options) (choice : offer.Choice) (fault : ReplyFault) (received : List ℕ) : Type 0 where
  pub address : Address
  pub is_asked : Contains (offer.addresses choice) address
  pub server : Publisher
  pub stands : offer.StandsAt address server
  pub why : IsLongAnswer server options.max_body address fault received ⊎ IsPageGone offer choice server address fault

-- Where all that one of the choices has to ask for is answered by the versions that it has, the reply is too long, or a page of another version is gone; where all versions answer it, it is too long.
pub record RefusesLong (offer : Offer) (options : Options) (fault : ReplyFault) (received : List ℕ) : Type 0 where
  pub choice : offer.Choice
  pub is_choice : offer.IsChoice choice
  pub too_long : AllByRecursion (AtEach offer IsAnswerable) (offer.addresses choice) → fault ≡ refusals.TooLong
  pub long : AllByRecursion (AtEach offer IsAnswerable) (offer.addresses choice)
      → HasLongPage offer options.max_body (offer.addresses choice) received
  pub why : AllByRecursion (AtChosen offer choice IsAnsweredAt) (offer.addresses choice) → RefusesFor offer options choice fault received

-- Not all that one of the choices has to ask for is read as pages.
pub record MissesPage (offer : Offer) : Type 0 where
  pub choice : offer.Choice
  pub is_choice : offer.IsChoice choice
  pub unread : AllByRecursion (AtEach offer IsReadByAll) (offer.addresses choice) → ⊥

-- they are told by two versions
pub record TellsVersions (history : List (List Triple)) (first other : Option ℕ) : Type 0 where
  pub one : ℕ
  pub two : ℕ
  pub is_first : first ≡ Some one
  pub is_other : other ≡ Some two
  pub is_one : IsVersionOf history one
  pub is_two : IsVersionOf history two
  pub differ : one ≢ two

-- they are told by two versions of a server that stands at an address, the first by the one that a choice has there
pub record ChangesVersion (offer : Offer) (first other : Option ℕ) : Type 0 where
  pub choice : offer.Choice
  pub is_choice : offer.IsChoice choice
  pub address : Address
  pub server : Publisher
  pub stands : offer.StandsAt address server
  pub versions : TellsVersions server.history first other
  pub is_chosen : offer.HasVersion choice address versions.one

-- A reply is refused only as too long, or for a page that another version has not, where the addresses are answered; a body is no page only where one is not read so; and versions differ only where there are two.
abbrev pub IsHonestCause : Offer → Options → ClientFault → Type 0
IsHonestCause offer options faults.Exchange = Unit {0}
IsHonestCause offer options faults.Stalled = Unit {0}
IsHonestCause offer options (faults.Cut received) = Unit {0}
IsHonestCause offer options (faults.Reply fault received) = RefusesLong offer options fault received
IsHonestCause offer options (faults.Page fault body) = MissesPage offer
IsHonestCause offer options (faults.Changed first other) = ChangesVersion offer first other
IsHonestCause offer options (faults.Budget n) = Unit {0}
IsHonestCause offer options faults.Sink = Unit {0}
IsHonestCause offer options faults.OutOfMemory = Unit {0}

-- What one of the choices has to ask for and the rises of the wire's faults are together more than the budget.
pub record OverrunsPlan (offer : Offer) (options : Options) (since now : WireState) : Type 0 where
  pub choice : offer.Choice
  pub is_choice : offer.IsChoice choice
  pub rises : ℕ
  pub rose : RoseBy rises since.faults now.faults
  pub over : options.budget < length (offer.addresses choice) + rises

-- Over a lively wire: a request failed too often only where the wire's faults rose at least once more than it may be asked again, and never for a stall; and the budget is spent only on these requests and on failures.
abbrev pub IsLivelyCause : Offer → Options → WireState → WireState → ClientFault → Type 0
IsLivelyCause offer options since now faults.Exchange = RoseBy (options.retries + 1) since.faults now.faults
IsLivelyCause offer options since now faults.Stalled = ⊥
IsLivelyCause offer options since now (faults.Cut received) = RoseBy (options.retries + 1) since.faults now.faults
IsLivelyCause offer options since now (faults.Reply fault received) = Unit {0}
IsLivelyCause offer options since now (faults.Page fault body) = Unit {0}
IsLivelyCause offer options since now (faults.Changed first other) = Unit {0}
IsLivelyCause offer options since now (faults.Budget n) = OverrunsPlan offer options since now
IsLivelyCause offer options since now faults.Sink = Unit {0}
IsLivelyCause offer options since now faults.OutOfMemory = Unit {0}

-- ---- completeness

-- A plan fits: all that each of the choices has to ask for is answered with pages of at most so many bytes, and so many more requests are within the budget.
pub record PlanFits (offer : Offer) (options : Options) (more : ℕ) : Type 0 where
  pub fit : InPlans offer (IsFit options.max_body)
  pub within : (choice : offer.Choice) → offer.IsChoice choice → length (offer.addresses choice) + more ≤ options.budget

-- It fits over one choice: all that this has to ask for is answered so by the versions that it has.
pub record ChoiceFits (offer : Offer) (options : Options) (more : ℕ) (choice : offer.Choice) : Type 0 where
  pub fit : AllByRecursion (AtChosen offer choice (IsFitAt options.max_body)) (offer.addresses choice)
  pub within : length (offer.addresses choice) + more ≤ options.budget

-- The wire's faults rose by so many, at most as often as a request may be asked again.
pub record RisesFew (options : Options) (rise : ℕ) (since now : WireState) : Type 0 where
  pub is_rise : now.faults ≡ since.faults + rise
  pub counted : now.faults < 2 ^ 64 - 1
  pub few : rise ≤ options.retries

-- What is left: want of memory, and two versions of the data where there are two.
abbrev pub MayStill : Offer → ClientFault → Type 0
MayStill offer faults.Exchange = ⊥
MayStill offer faults.Stalled = ⊥
MayStill offer (faults.Cut received) = ⊥
MayStill offer (faults.Reply fault received) = ⊥
MayStill offer (faults.Page fault body) = ⊥
MayStill offer (faults.Changed first other) = ChangesVersion offer first other
MayStill offer (faults.Budget n) = ⊥
MayStill offer faults.Sink = ⊥
MayStill offer faults.OutOfMemory = Unit {0}

-- ---- steady wires

-- no link is open
abbrev pub NoneOpen : WireState → Type 0
NoneOpen wire = (k : ℕ) → (wire.links k).is_open ≡ false

-- Over a steady wire without an open link, on which fewer than 2^63 links can be given, no fault was provoked, and none came where none is due.
abbrev pub StaysUnprovoked : Options → WireState → WireState → Type 0
StaysUnprovoked options since now = since.nature.steady ≡ true → NoneOpen since → since.given + options.budget < 2 ^ 63 → SparesWire since now
