-- Several servers, each at an authority of its own, of which one query is asked together.
use Rattle.std.specs.Prelude.{ℕ, ◌≡◌, List, [], ◌∷◌}
use Rattle.std.specs.List.{All}
use Rattle.tpf_base.specs.Addresses.{Address, authority_of}
use Rattle.tpf_base.specs.Links.{WireState}
use Rattle.request_plan.specs.Worlds.{World}
use Rattle.joint_pages.specs.Truths.{IsPageOfAll}
use Rattle.federation.specs.Beginnings.{FitByRows, joint_rows, joint_plan, none_reported}
use Rattle.tpf_client.specs.Sources.{Sources, sources_of}
use Rattle.tpf_client.specs.Offers.{Publisher}
use Rattle.tpf_client.specs.Ends.{AreHonestServers}

-- no later start has the authority of an earlier one
abbrev pub AreApart : List Address → Type 0
AreApart [] = Unit {0}
AreApart (start ∷ starts) = All (λ other. authority_of start ≡ authority_of other → ⊥) starts × AreApart starts

-- Where the evaluation has its pages from: what each server has. The rows are the solutions over the union of their data, and the plan is that of a join over all of them, which asks row by row whatever the size of blocks.
abbrev pub joint_sources : Sources
joint_sources = sources_of (List World) FitByRows IsPageOfAll joint_rows joint_plan none_reported 1

-- over a wire whose other ends answer, at the host and port of each start, as the server of one of these publishers does, in their order
abbrev pub OverServers : (List ℕ → ℕ → List ℕ → List ℕ → Type 0) → List Address → WireState → (List Publisher → Type 0) → Type 0
OverServers allows starts since holds = (publishers : List Publisher) → AreHonestServers allows starts publishers since → holds publishers
