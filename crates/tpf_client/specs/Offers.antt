-- What the other ends of a wire offer to a call: choices of what they hold, and what the call gives and asks for over each.
use Rattle.std.specs.Prelude.{ℕ, ◌≡◌, ◌≤◌, ◌⊎◌, ◌&&◌, Bool, true, List, [], ◌∷◌, ◌++◌, length, Option, Some, None, bytes_eq, if◌then◌else◌}
use Rattle.std.specs.List.{AllZip}
use Rattle.rdf_terms.specs.declared.term.Triple.{Triple}
use Rattle.tpf_base.specs.Addresses.{Address, authority_of}
use Rattle.tpf_base.specs.Marks.{Served}
use Rattle.template_fill.specs.Metadata.{Config}
use Rattle.template_fill.specs.Authorities.{ShareAuthority}
use Rattle.template_fill.specs.Answered.{is_answered}
use Rattle.template_fill.specs.Bodies.{version_of}
use Rattle.bgp_core.specs.Queries.{QueryData}
use Rattle.bgp_core.specs.Solutions.{Places}
use Rattle.request_plan.specs.Plans.{plan}
use Rattle.request_plan.specs.Worlds.{World}
use Rattle.plan_laws.specs.Servers.{server_world}
use Rattle.plan_laws.specs.JointWorlds.{union, joint_world}
use Rattle.tpf_client.specs.Calls.{no_names_bound, solutions_of}

-- ---- publishers

-- numbered versions of data, and the configuration of the server that gives them
pub record Publisher : Type 0 where
  pub history : List (List Triple)
  pub config : Config

-- the publisher of this history, by a server of this configuration
abbrev pub publisher : List (List Triple) → Config → Publisher
publisher history config = record { history = history; config = config }

-- the number of one of the versions
pub record IsVersionOf (history : List (List Triple)) (version : ℕ) : Type 0 where
  pub low : 1 ≤ version
  pub high : version ≤ length history

-- ---- offers

-- Choices of what the servers hold, such as a version of the data; whether a report that tells this version tells of a choice; the rows that a call gives over a choice, and the addresses that it has to ask for, both in some order; which servers stand at an address; and the version that a choice has there.
pub record Offer : Type 1 where
  pub Choice : Type 0
  pub IsChoice : Choice → Type 0
  pub IsReported : Choice → Option ℕ → Type 0
  pub rows : Choice → List Places
  pub addresses : Choice → List Address
  pub StandsAt : Address → Publisher → Type 0
  pub HasVersion : Choice → Address → ℕ → Type 0

-- ---- one server

-- a version answers the start with the status 200, as a server of its authority
unfoldable pub is_served : Publisher → Address → ℕ → Bool
is_served p start version = is_answered p.history (Served version) p.config start && bytes_eq (authority_of start) (authority_of p.config.base)

-- the addresses that a query asks for over one version of the data, each for at most so many rows: the start, and, where it is served, the plan of its join
abbrev pub addresses_in_blocks : ℕ → Publisher → QueryData → Address → ℕ → List Address
addresses_in_blocks block p q start version =
    start ∷ (if is_served p start version then plan (server_world block (version_of p.history version) p.config) q.patterns (no_names_bound q) else [])

-- those of a query that asks row by row
abbrev pub addresses_of : Publisher → QueryData → Address → ℕ → List Address
addresses_of = addresses_in_blocks 1

-- One server, which stands at each address that is asked for, and is asked for at most so many rows at once. A choice is a version, which is reported.
abbrev pub offer_in_blocks : ℕ → Publisher → QueryData → Address → Offer
offer_in_blocks block p q start = record {
  Choice = ℕ;
  IsChoice = IsVersionOf p.history;
  IsReported = λ version reported. reported ≡ Some version;
  rows = λ version. solutions_of (version_of p.history version) q;
  addresses = addresses_in_blocks block p q start;
  StandsAt = λ address server. server ≡ p;
  HasVersion = λ version address told. told ≡ version;
}

-- the same row by row
abbrev pub server_offer : Publisher → QueryData → Address → Offer
server_offer = offer_in_blocks 1

-- ---- several servers, each of which stands at the authority of the start at its place

-- a version of each
abbrev pub AreVersions : List Publisher → List ℕ → Type 0
AreVersions publishers versions = AllZip (λ p version. IsVersionOf p.history version) publishers versions

-- what they have over these versions, each alone
abbrev pub worlds_of : List Publisher → List ℕ → List World
worlds_of [] versions = []
worlds_of (p ∷ publishers) [] = []
worlds_of (p ∷ publishers) (version ∷ versions) = server_world 1 (version_of p.history version) p.config ∷ worlds_of publishers versions

abbrev pub data_of : List Publisher → List ℕ → List (List Triple)
data_of [] versions = []
data_of (p ∷ publishers) [] = []
data_of (p ∷ publishers) (version ∷ versions) = version_of p.history version ∷ data_of publishers versions

-- each serves its start
abbrev pub are_served : List Publisher → List Address → List ℕ → Bool
are_served [] starts versions = true
are_served (p ∷ publishers) [] versions = true
are_served (p ∷ publishers) (start ∷ starts) [] = true
are_served (p ∷ publishers) (start ∷ starts) (version ∷ versions) = is_served p start version && are_served publishers starts versions

-- the server whose start has the authority of the address
abbrev pub StandsAmong : List Publisher → List Address → Address → Publisher → Type 0
StandsAmong [] starts address server = ⊥
StandsAmong (p ∷ publishers) [] address server = ⊥
StandsAmong (p ∷ publishers) (start ∷ starts) address server = (ShareAuthority start address × (server ≡ p)) ⊎ StandsAmong publishers starts address server

-- the version at the place of that start
abbrev pub HasAmong : List Address → List ℕ → Address → ℕ → Type 0
HasAmong [] versions address told = ⊥
HasAmong (start ∷ starts) [] address told = ⊥
HasAmong (start ∷ starts) (version ∷ versions) address told = (ShareAuthority start address × (told ≡ version)) ⊎ HasAmong starts versions address told

-- What a query has to ask for over a version of each server: the starts; and, where each is served, the plan in which each pattern is asked for at every server, the sum of the counts chooses, and the pages of the chosen pattern are asked for at every server that has them.
abbrev pub joint_addresses : List Publisher → QueryData → List Address → List ℕ → List Address
joint_addresses publishers q starts versions =
    starts ++ (if are_served publishers starts versions then plan (joint_world (worlds_of publishers versions)) q.patterns (no_names_bound q) else [])

-- Several servers. A choice is a version of each, and a report tells none of them; the rows are the solutions over the union of their data.
abbrev pub servers_offer : List Publisher → QueryData → List Address → Offer
servers_offer publishers q starts = record {
  Choice = List ℕ;
  IsChoice = AreVersions publishers;
  IsReported = λ versions reported. reported ≡ None;
  rows = λ versions. solutions_of (union (data_of publishers versions)) q;
  addresses = joint_addresses publishers q starts;
  StandsAt = StandsAmong publishers starts;
  HasVersion = HasAmong starts;
}
