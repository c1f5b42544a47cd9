-- Over wires whose other ends answer as a server does, over numbered versions of data.
use Rattle.std.specs.Prelude.{ℕ, ◌≡◌, ◌<◌, ◌^◌, List, length, Option}
use Rattle.std.specs.Io.KnownBytes.{Appends}
use Rattle.std.specs.List.Sorted.{IsPermutation}
use Rattle.rdf_terms.specs.declared.term.Triple.{Triple}
use Rattle.tpf_base.specs.Addresses.{Address}
use Rattle.tpf_base.specs.Causes.{counted_by}
use Rattle.tpf_base.specs.Links.{All, WireState}
use Rattle.tpf_base.specs.Wrote.{AppendsPrefix}
use Rattle.template_fill.specs.Metadata.{Config}
use Rattle.template_fill.specs.Configurations.{IsConfig, IsHistory}
use Rattle.template_fill.specs.Responses.{answering, IsHonestAt}
use Rattle.template_fill.specs.Bodies.{version_of}
use Rattle.bgp_core.specs.Queries.{QueryData}
use Rattle.bgp_core.specs.Solutions.{Places}
use Rattle.result_json.specs.Results.{result_text}
use Rattle.rdf_terms.specs.Askable.{AskableAreKept}
use Rattle.template_fill.specs.Authorities.{PagesAreAddresses, AuthoritiesAreHostsAndPorts}
use Rattle.template_fill.specs.Answered.{PagesAreGiven, AnsweredGivePages}
use Rattle.control_laws.specs.Law.{NothingElseIsRead}
use Rattle.control_reader.specs.Laws.{NoPageAtFault}
use Rattle.result_json.specs.Pieces.{PiecesMakeTheText, RowsGoOn}
use Rattle.http_ends.specs.Requests.{AddressesArePlain}
use Rattle.http_ends.specs.Answers.{AnswersAreRead, LongHeadsAreRefused, HeadsAreShort, AnswersHaveStatus, PagesAreNQuads, ServerAnswersAreRead, ReadingsStay}
use Rattle.http_ends.specs.Cuts.{RequestIsSent, ResponseIsCut, RepliesAreCut, NextAnswerIsCut}
use Rattle.pool_laws.specs.Following.{EmptyPoolsFollow, PutsFollow, StepsFollow, FaultsFollow}
use Rattle.plan_laws.specs.Servers.{ServersAreWorlds, ServersHaveForms, ServersPagesAreTrue}
use Rattle.tpf_client.specs.Offers.{Offer}

-- A wire that tells all, and whose other end at the host and the port of an address answers, on every link, as a server of this history and configuration does. Of other hosts and ports nothing is said. Each version has fewer triples than a page can count.
pub record IsHonestWire (allows : List ℕ → ℕ → List ℕ → List ℕ → Type 0) (address : Address) (history : List (List Triple)) (config : Config) (wire : WireState) : Type 0 where
  pub tells : wire.nature.tells ≡ All
  pub is_honest : IsHonestAt allows address.host address.port (answering history config)
  pub is_history : IsHistory history
  pub is_config : IsConfig config
  pub few : (version : ℕ) → length (version_of history version) < 2 ^ 64

-- The text of some ordering of the rows of one choice, the one that is reported, was written whole.
pub record WritesSolutions (offer : Offer) (q : QueryData) (reported : Option ℕ) (n : ℕ) (taken taken' : Option (List ℕ)) : Type 0 where
  pub choice : offer.Choice
  pub is_choice : offer.IsChoice choice
  pub is_reported : offer.IsReported choice reported
  pub rows : List Places
  pub rows_are : IsPermutation (offer.rows choice) rows
  pub text : Appends taken taken' (result_text q rows)
  pub count : n ≡ counted_by (length rows) 0

-- The rows are those of one choice, the one that is reported, in some order.
pub record IsSolutions (offer : Offer) (reported : Option ℕ) (rows : List Places) : Type 0 where
  pub choice : offer.Choice
  pub is_choice : offer.IsChoice choice
  pub is_reported : offer.IsReported choice reported
  pub rows_are : IsPermutation (offer.rows choice) rows

-- A front of such a text was written.
pub record WritesSolutionsFront (offer : Offer) (q : QueryData) (taken taken' : Option (List ℕ)) : Type 0 where
  pub choice : offer.Choice
  pub is_choice : offer.IsChoice choice
  pub rows : List Places
  pub rows_are : IsPermutation (offer.rows choice) rows
  pub text : AppendsPrefix taken taken' (result_text q rows)

-- ---- the laws on which the solutions rest

pub record Laws : Type 0 where
  pub empty : EmptyPoolsFollow
  pub puts : PutsFollow
  pub steps : StepsFollow
  pub faults : FaultsFollow
  pub given : PagesAreGiven
  pub answered : AnsweredGivePages
  pub only : NothingElseIsRead
  pub never_both : NoPageAtFault
  pub worlds : ServersAreWorlds
  pub forms : ServersHaveForms
  pub pages : ServersPagesAreTrue
  pub kept : AskableAreKept
  pub addresses : PagesAreAddresses
  pub pieces : PiecesMakeTheText
  pub goes_on : RowsGoOn
  pub plain : AddressesArePlain
  pub reads : AnswersAreRead
  pub long : LongHeadsAreRefused
  pub short : HeadsAreShort
  pub status : AnswersHaveStatus
  pub server : ServerAnswersAreRead
  pub quads : PagesAreNQuads
  pub sends : RequestIsSent
  pub responses : ResponseIsCut
  pub replies : RepliesAreCut
  pub next : NextAnswerIsCut
  pub stays : ReadingsStay
  pub authorities : AuthoritiesAreHostsAndPorts
