-- Plans over several servers, whose addresses are answered with pages that are read (Triple Pattern Fragments; Verborgh et al.).
use Rattle.std.specs.Prelude.{ℕ, ◌≡◌, ◌<◌, List, length, map, replicate, None}
use Rattle.std.specs.List.{AllByRecursion, Contains}
use Rattle.tpf_base.specs.Addresses.{Address, authority_of}
use Rattle.tpf_base.specs.Marks.{Mark, version_at}
use Rattle.rdf_terms.specs.declared.term.Triple.{Triple}
use Rattle.template_fill.specs.Metadata.{Config}
use Rattle.template_fill.specs.Bodies.{version_of}
use Rattle.bgp_core.specs.declared.pattern.Pattern.{Pattern}
use Rattle.request_plan.specs.Plans.{plan}
use Rattle.request_plan.specs.Worlds.{World}
use Rattle.plan_laws.specs.Servers.{server_world}
use Rattle.plan_laws.specs.JointWorlds.{joint_world}
use Rattle.plan_laws.specs.Fitting.{IsRead, IsAskable, IsServable}

-- a server of one version of a history
pub record ServerData : Type 0 where
  pub history : List (List Triple)
  pub mark : Mark
  pub config : Config

-- what it has, asked row by row
abbrev pub world_at : ServerData → World
world_at server = server_world 1 (version_of server.history (version_at server.mark)) server.config

-- it is within the limits
abbrev pub IsWithin : ServerData → Type 0
IsWithin server = IsServable server.history server.mark server.config

-- the address has the authority of one of these servers, which answers it with a page that is read
pub record IsReadByOne (servers : List ServerData) (address : Address) : Type 0 where
  pub server : ServerData
  pub is_one : Contains servers server
  pub own : authority_of address ≡ authority_of server.config.base
  pub read : IsRead server.history server.mark server.config address

-- each address of the plan over all of them is so
abbrev pub JointPlansAreRead : Type 0
JointPlansAreRead =
    (servers : List ServerData) (patterns : List Pattern) (names : ℕ)
    → 0 < length servers
    → AllByRecursion IsWithin servers
    → AllByRecursion IsAskable patterns
    → AllByRecursion (IsReadByOne servers) (plan (joint_world (map world_at servers)) patterns (replicate names None))
