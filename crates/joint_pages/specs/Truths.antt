-- What it is for pages to be true for several servers.
use Rattle.std.specs.Prelude.{◌<◌, ◌==◌, Bool, List, length, Option, Some, None, ⊤}
use Rattle.std.specs.List.{All}
use Rattle.tpf_base.specs.Addresses.{Address}
use Rattle.fragment_page.specs.declared.page.Page.{Page}
use Rattle.request_plan.specs.Worlds.{World, IsWorld, IsOneServer, IsPageAt, IsRoundPageAt}
use Rattle.plan_laws.specs.JointWorlds.{joint_world}
use Rattle.request_plan.specs.declared.joint_page.JointPage.{JointPage}
use Rattle.joint_pages.specs.Parts.{PartData}
use Rattle.joint_pages.specs.Gatherings.{GatheringData, round_of}

-- what each of several servers has, and there is one
pub record AreServers (worlds : List World) : Type 0 where
  pub are_worlds : All IsWorld worlds
  pub are_one : All IsOneServer worlds
  pub some : 0 < length worlds

-- there is one alone
abbrev pub is_one : List World → Bool
is_one worlds = length worlds == 1

-- the page is what each server has that has an address like this
abbrev pub IsPageOfAll : List World → Address → Page → Type 0
IsPageOfAll worlds address page = All (λ w. IsPageAt w address page) worlds

abbrev pub IsTrueWhere : List World → Address → Option Page → Type 0
IsTrueWhere worlds address None = ⊤
IsTrueWhere worlds address (Some page) = IsPageOfAll worlds address page

-- a page that came is true
abbrev pub IsTruePart : List World → PartData → Type 0
IsTruePart worlds p = IsTrueWhere worlds p.address p.page

-- all pages that came are true
abbrev pub HoldsTrue : List World → GatheringData → Type 0
HoldsTrue worlds g = All (IsTruePart worlds) g.parts

-- the page is that of the round of all servers together
abbrev pub IsJointPageOf : List World → GatheringData → JointPage → Type 0
IsJointPageOf worlds g page = IsRoundPageAt (joint_world worlds) (round_of g) page
