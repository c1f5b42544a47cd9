-- The limits of servers under which each reply to a query over all of them can be read.
use Rattle.std.specs.Prelude.{ℕ, ◌≡◌, ◌+◌, ◌≤◌, true, List, [], ◌∷◌, length, map, Result, IfErr}
use Rattle.std.specs.List.{AllByRecursion, AllZip}
use Rattle.tpf_base.specs.Addresses.{Address, address_text, authority_of}
use Rattle.tpf_base.specs.Links.{WireState}
use Rattle.tpf_base.specs.Marks.{Served}
use Rattle.template_fill.specs.declared.limits.TheConstants.{LONGEST_START}
use Rattle.template_fill.specs.Answered.{is_answered}
use Rattle.template_fill.specs.Bodies.{version_of}
use Rattle.bgp_core.specs.Queries.{QueryData}
use Rattle.plan_laws.specs.Fitting.{AreServable, IsAskable}
use Rattle.tpf_client.specs.declared.options.Options.{Options}
use Rattle.tpf_client.specs.declared.fault.ClientFault.{ClientFault}
use Rattle.tpf_client.specs.Offers.{Publisher, IsVersionOf, servers_offer, joint_addresses}
use Rattle.tpf_client.specs.Ends.{AreHonestServers}
use Rattle.tpf_client.specs.Plans.{AtEach, AtChosen, IsSmallByAll, RisesFew, answer_at}
use Rattle.tpf_client.specs.Still.{AnswerStill, IsWant}

-- the text of a start has at most LONGEST_START bytes
abbrev pub IsShortStart : Address → Type 0
IsShortStart start = length (address_text start) ≤ LONGEST_START

-- ---- data that do not change

-- A server whose data do not change, within the limits of what is served; its base has the authority of the start, which it answers with the status 200.
pub record ServesStart (start : Address) (p : Publisher) : Type 0 where
  pub still : length p.history ≡ 1
  pub servable : AreServable (version_of p.history 1)
  pub authority : authority_of start ≡ authority_of p.config.base
  pub answered : is_answered p.history (Served 1) p.config start ≡ true

-- the first version of each
abbrev pub first_versions : List Publisher → List ℕ
first_versions publishers = map (λ p. 1) publishers

-- what is asked for over these
abbrev pub first_addresses : List Publisher → QueryData → List Address → List Address
first_addresses publishers q starts = joint_addresses publishers q starts (first_versions publishers)

-- Each server serves its start; the starts and the fixed parts of the patterns are short; each body of the plan is within the limit; and the addresses and so many more requests are within the budget.
pub record ServersFit (publishers : List Publisher) (q : QueryData) (starts : List Address) (options : Options) (more : ℕ) : Type 0 where
  pub starts_are : AllByRecursion IsShortStart starts
  pub servers : AllZip ServesStart starts publishers
  pub patterns : AllByRecursion IsAskable q.patterns
  pub small : AllByRecursion (AtEach (servers_offer publishers q starts) (IsSmallByAll options.max_body)) (first_addresses publishers q starts)
  pub within : length (first_addresses publishers q starts) + more ≤ options.budget

-- ---- over one version of each server

-- A server of which one version is within the limits of what is served; its base has the authority of the start, which this version answers with the status 200.
pub record ServesOver (start : Address) (p : Publisher) (version : ℕ) : Type 0 where
  pub is_version : IsVersionOf p.history version
  pub servable : AreServable (version_of p.history version)
  pub authority : authority_of start ≡ authority_of p.config.base
  pub answered : is_answered p.history (Served version) p.config start ≡ true

-- so does the server at each start, of the version at its place
abbrev pub ServeOver : List Address → List Publisher → List ℕ → Type 0
ServeOver [] [] [] = Unit {0}
ServeOver [] [] (version ∷ versions) = ⊥
ServeOver [] (p ∷ publishers) versions = ⊥
ServeOver (start ∷ starts) [] versions = ⊥
ServeOver (start ∷ starts) (p ∷ publishers) [] = ⊥
ServeOver (start ∷ starts) (p ∷ publishers) (version ∷ versions) = ServesOver start p version × ServeOver starts publishers versions

-- this version answers the address with a body of at most so many bytes
abbrev pub IsSmallAt : ℕ → Publisher → ℕ → Address → Type 0
IsSmallAt most p version address = length (answer_at p version address).body ≤ most

-- Over these versions: each server serves its start; the starts and the fixed parts of the patterns are short; each body of the plan is within the limit; and the addresses and so many more requests are within the budget.
pub record VersionsFit (publishers : List Publisher) (versions : List ℕ) (q : QueryData) (starts : List Address) (options : Options) (more : ℕ) : Type 0 where
  pub starts_are : AllByRecursion IsShortStart starts
  pub servers : ServeOver starts publishers versions
  pub patterns : AllByRecursion IsAskable q.patterns
  pub small : AllByRecursion (AtChosen (servers_offer publishers q starts) versions (IsSmallAt options.max_body)) (joint_addresses publishers q starts versions)
  pub within : length (joint_addresses publishers q starts versions) + more ≤ options.budget

-- A query of several servers, each of which answers over one version of its own: where these are within the limits, the wire's faults rose few times, and nothing else failed, it succeeds or memory is wanting.
abbrev pub SucceedsWithin : {A : Type 0} → (List ℕ → ℕ → List ℕ → List ℕ → Type 0) → Options → QueryData → List Address → WireState → WireState → Type 0 → Result A ClientFault → Type 0
SucceedsWithin allows options q starts since now Failed result =
    (publishers : List Publisher) (versions : List ℕ) → AreHonestServers allows starts publishers since → AnswerStill allows starts publishers versions → since.nature.lively ≡ true
    → (rise : ℕ) → RisesFew options rise since now → VersionsFit publishers versions q starts options rise → (Failed → ⊥) → IfErr result IsWant
