-- Over wires whose other ends answer over one version of their data alone, such as servers that read their data again before the call and not in it.
use Rattle.std.specs.Prelude.{ℕ, ◌≡◌, ◌==◌, ◌<◌, ◌^◌, true, Bool, List, [], ◌∷◌, length, Result, IfOk, IfErr}
use Rattle.tpf_base.specs.Addresses.{Address}
use Rattle.tpf_base.specs.Links.{All, WireState}
use Rattle.template_fill.specs.Bodies.{version_of}
use Rattle.template_fill.specs.Configurations.{IsConfig, IsHistory}
use Rattle.pool_laws.specs.Answers.{IsHonestOver}
use Rattle.bgp_core.specs.Queries.{QueryData}
use Rattle.tpf_client.specs.declared.options.Options.{Options}
use Rattle.tpf_client.specs.declared.options.Report.{Report}
use Rattle.tpf_client.specs.declared.fault.ClientFault.{ClientFault}
use Rattle.tpf_client.specs.declared.fault.ClientFault.TheVariants as faults
use Rattle.tpf_client.specs.Offers.{Publisher, Offer, IsVersionOf, offer_in_blocks, servers_offer}
use Rattle.tpf_client.specs.Ends.{AreHonestServers}
use Rattle.tpf_client.specs.Plans.{RisesFew, ChoiceFits, PacesRequests}

-- this version alone
abbrev pub only : ℕ → ℕ → Bool
only version = λ other. other == version

-- At the host and the port of an address, each answer is one over this version of the publisher. Of other hosts and ports, and of other versions, nothing is said.
pub record AnswersOver (allows : List ℕ → ℕ → List ℕ → List ℕ → Type 0) (address : Address) (p : Publisher) (version : ℕ) : Type 0 where
  pub is_history : IsHistory p.history
  pub is_config : IsConfig p.config
  pub is_version : IsVersionOf p.history version
  pub few : length (version_of p.history version) < 2 ^ 64
  pub is_honest : IsHonestOver allows address.host address.port p.history p.config (only version)

-- over a wire that tells all, whose other end at the start answers so, and on which never MOST_IDLE waits follow one another
abbrev pub OverStill : (List ℕ → ℕ → List ℕ → List ℕ → Type 0) → Address → WireState → (Publisher → ℕ → Type 0) → Type 0
OverStill allows start since holds =
    (p : Publisher) (version : ℕ) → AnswersOver allows start p version → since.nature.tells ≡ All → since.nature.lively ≡ true → holds p version

-- at the start at its place each server answers over the version at its place
abbrev pub AnswerStill : (List ℕ → ℕ → List ℕ → List ℕ → Type 0) → List Address → List Publisher → List ℕ → Type 0
AnswerStill allows [] [] [] = Unit {0}
AnswerStill allows [] [] (version ∷ versions) = ⊥
AnswerStill allows [] (p ∷ publishers) versions = ⊥
AnswerStill allows (start ∷ starts) [] versions = ⊥
AnswerStill allows (start ∷ starts) (p ∷ publishers) [] = ⊥
AnswerStill allows (start ∷ starts) (p ∷ publishers) (version ∷ versions) = AnswersOver allows start p version × AnswerStill allows starts publishers versions

-- memory is wanting
abbrev pub IsWant : ClientFault → Type 0
IsWant fault = fault ≡ faults.OutOfMemory

-- A query of one server that answers over one version: where what it asks for over this one fits, the wire's faults rose few times, and nothing else failed, it succeeds or memory is wanting.
abbrev pub SucceedsStill : {A : Type 0} → (List ℕ → ℕ → List ℕ → List ℕ → Type 0) → Options → QueryData → Address → WireState → WireState → Type 0 → Result A ClientFault → Type 0
SucceedsStill allows options q start since now Failed result =
    OverStill allows start since (λ p version. (rise : ℕ) → RisesFew options rise since now → ChoiceFits (offer_in_blocks options.block p q start) options rise version
    → (Failed → ⊥) → IfErr result IsWant)

-- The same of several servers, each of which answers over one version of its own.
abbrev pub SucceedsStillOver : {A : Type 0} → (List ℕ → ℕ → List ℕ → List ℕ → Type 0) → Options → QueryData → List Address → WireState → WireState → Type 0 → Result A ClientFault → Type 0
SucceedsStillOver allows options q starts since now Failed result =
    (publishers : List Publisher) (versions : List ℕ) → AreHonestServers allows starts publishers since → AnswerStill allows starts publishers versions → since.nature.lively ≡ true
    → (rise : ℕ) → RisesFew options rise since now → ChoiceFits (servers_offer publishers q starts) options rise versions → (Failed → ⊥) → IfErr result IsWant

-- This choice is reported, and as many requests were started as it has addresses to ask for, or more, and no more than these and the rises of the wire's faults.
pub record PacesChoice (offer : Offer) (choice : offer.Choice) (report : Report) (since now : WireState) : Type 0 where
  pub paces : PacesRequests offer report since now
  pub is_choice : paces.choice ≡ choice

-- A query of one server that answers over one version: an answer reports this version, and its requests are those of this one.
abbrev pub PacesStill : {A : Type 0} → (List ℕ → ℕ → List ℕ → List ℕ → Type 0) → Options → QueryData → Address → WireState → WireState → (A → Report) → Result A ClientFault → Type 0
PacesStill allows options q start since now told result =
    OverStill allows start since (λ p version. IfOk result (λ x. PacesChoice (offer_in_blocks options.block p q start) version (told x) since now))
