-- What a query with groups asks a server for, the plans of its blocks one after another, and what the server offers to it.
use Rattle.std.specs.Prelude.{ℕ, ◌≡◌, ◌++◌, List, [], ◌∷◌, length, map, Option, Some, None}
use Rattle.std.specs.List.{flat_map, AllByRecursion, Contains}
use Rattle.rdf_terms.specs.declared.term.Triple.{Triple}
use Rattle.tpf_base.specs.Addresses.{Address}
use Rattle.template_fill.specs.Bodies.{version_of}
use Rattle.http_wire.specs.declared.message.ReplyFault.{ReplyFault}
use Rattle.http_wire.specs.declared.message.ReplyFault.TheVariants as refusals
use Rattle.bgp_core.specs.declared.pattern.Pattern.{Pattern}
use Rattle.bgp_core.specs.Solutions.{Places}
use Rattle.group_query.specs.Trees.{GroupData, group_tree, blocks_of, block_query}
use Rattle.group_rows.specs.Gathering.{gathered_answers}
use Rattle.tpf_client.specs.declared.options.Options.{Options}
use Rattle.tpf_client.specs.declared.fault.ClientFault.{ClientFault}
use Rattle.tpf_client.specs.declared.fault.ClientFault.TheVariants as faults
use Rattle.tpf_client.specs.Calls.{solutions_of}
use Rattle.tpf_client.specs.Offers.{Publisher, Offer, IsVersionOf, addresses_of}
use Rattle.tpf_client.specs.Ends.{Ends, publisher_ends}
use Rattle.tpf_client.specs.Plans.{AtEach, IsAnswerable, IsReadByAll, HasLongPage, TellsVersions}
use Rattle.group_patterns.specs.Blocks.{BlockRows}

-- ---- the plan

-- the addresses that blocks ask for, each over a version of its own
abbrev pub plans_over : Publisher → Address → List (List ℕ) → List (List Pattern) → List ℕ → List Address
plans_over p start names [] versions = []
plans_over p start names (ps ∷ pss) [] = []
plans_over p start names (ps ∷ pss) (version ∷ versions) = addresses_of p (block_query names ps) start version ++ plans_over p start names pss versions

-- the addresses that a query with groups asks for over one version of the data: those of each block, in the order in which the blocks are written
abbrev pub group_plan : Publisher → GroupData → Address → ℕ → List Address
group_plan p g start version = flat_map (λ ps. addresses_of p (block_query g.names ps) start version) (blocks_of (group_tree g))

-- a version of the data for each block
pub record AreVersions (history : List (List Triple)) (g : GroupData) (versions : List ℕ) : Type 0 where
  pub each : AllByRecursion (IsVersionOf history) versions
  pub count : length versions ≡ length (blocks_of (group_tree g))

-- the plan where each block is asked over its version; where all are one version, this is the group's plan over it
abbrev pub plan_over : Publisher → GroupData → Address → List ℕ → List Address
plan_over p g start versions = plans_over p start g.names (blocks_of (group_tree g)) versions

-- this version for each block
abbrev pub versions_at : GroupData → ℕ → List ℕ
versions_at g version = map (λ ps. version) (blocks_of (group_tree g))

-- ---- the offer

-- the solutions of blocks, each over a version of its own
abbrev pub rows_over : List (List Triple) → List (List ℕ) → List (List Pattern) → List ℕ → List (List Places)
rows_over history names [] versions = []
rows_over history names (ps ∷ pss) [] = []
rows_over history names (ps ∷ pss) (version ∷ versions) = solutions_of (version_of history version) (block_query names ps) ∷ rows_over history names pss versions

-- each block told the version that is reported; without a block none is
pub record IsToldByAll (versions : List ℕ) (reported : Option ℕ) : Type 0 where
  pub each : AllByRecursion (λ version. reported ≡ Some version) versions
  pub none : versions ≡ [] → reported ≡ None

-- the first of these versions are those that the blocks told, one after another
abbrev pub TellFirst : List BlockRows → List ℕ → Type 0
TellFirst [] versions = Unit {0}
TellFirst (b ∷ bs) [] = ⊥
TellFirst (b ∷ bs) (version ∷ versions) = (b.report.version ≡ Some version) × TellFirst bs versions

-- What a server offers to a query with groups. A choice is a version for each block, and a report tells of one where it tells each of them; all that the blocks have to ask for is asked for, block after block.
abbrev pub group_offer : Publisher → GroupData → Address → Offer
group_offer p g start = record {
  Choice = List ℕ;
  IsChoice = AreVersions p.history g;
  IsReported = IsToldByAll;
  rows = λ versions. gathered_answers g (rows_over p.history g.names (blocks_of (group_tree g)) versions);
  addresses = plan_over p g start;
  StandsAt = λ address server. server ≡ p;
  HasVersion = λ versions address told. Contains versions told;
}

-- one server, which stands at a start, of which the blocks of a query are asked
abbrev pub group_ends : GroupData → Address → Ends
group_ends g start = publisher_ends start (λ p. group_offer p g start)

-- ---- causes over an honest wire, where all blocks are asked over one version

-- this is said of the group's plan over one of the versions
pub record OverOne (p : Publisher) (g : GroupData) (start : Address) (says : List Address → Type 0) : Type 0 where
  pub version : ℕ
  pub is_version : IsVersionOf p.history version
  pub holds : says (group_plan p g start version)

-- Where all these addresses are answered, the reply is too long.
pub record RefusesOf (offer : Offer) (options : Options) (fault : ReplyFault) (received : List ℕ) (addresses : List Address) : Type 0 where
  pub too_long : AllByRecursion (AtEach offer IsAnswerable) addresses → fault ≡ refusals.TooLong
  pub long : AllByRecursion (AtEach offer IsAnswerable) addresses → HasLongPage offer options.max_body addresses received

-- not all these addresses are read as pages
abbrev pub MissesOf : Offer → List Address → Type 0
MissesOf offer addresses = AllByRecursion (AtEach offer IsReadByAll) addresses → ⊥

-- A reply is refused only as too long, where the addresses are answered; a body is no page only where one is not read so; and versions differ only where there are two.
abbrev pub IsHonestGroupCause : Publisher → Options → GroupData → Address → ClientFault → Type 0
IsHonestGroupCause p options g start faults.Exchange = Unit {0}
IsHonestGroupCause p options g start faults.Stalled = Unit {0}
IsHonestGroupCause p options g start (faults.Cut received) = Unit {0}
IsHonestGroupCause p options g start (faults.Reply fault received) = OverOne p g start (RefusesOf (group_offer p g start) options fault received)
IsHonestGroupCause p options g start (faults.Page fault body) = OverOne p g start (MissesOf (group_offer p g start))
IsHonestGroupCause p options g start (faults.Changed first other) = TellsVersions p.history first other
IsHonestGroupCause p options g start (faults.Budget n) = Unit {0}
IsHonestGroupCause p options g start faults.Sink = Unit {0}
IsHonestGroupCause p options g start faults.OutOfMemory = Unit {0}
