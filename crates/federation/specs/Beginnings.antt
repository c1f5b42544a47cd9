-- What an evaluation over several servers owes before its first turn.
use Rattle.std.specs.Prelude.{ℕ, ◌≡◌, ◌*◌, min, List, Option, None}
use Rattle.tpf_base.specs.Addresses.{Address}
use Rattle.template_fill.specs.declared.form.Form.{Form}
use Rattle.bgp_core.specs.Queries.{QueryData}
use Rattle.bgp_core.specs.Solutions.{Places, no_names_bound, solutions_of}
use Rattle.request_plan.specs.Worlds.{World, HasForms}
use Rattle.request_plan.specs.Plans.{plan}
use Rattle.plan_laws.specs.JointWorlds.{joint_world}
use Rattle.joint_pages.specs.Truths.{AreServers}

-- what each of several servers has, the forms give the addresses of the first pages at all of them, and they are asked row by row
pub record FitWorlds (worlds : List World) (forms : List Form) : Type 0 where
  pub servers : AreServers worlds
  pub forms_are : HasForms (joint_world worlds) forms
  pub row_by_row : (joint_world worlds).block ≡ 1

-- the same, whatever the size of blocks
abbrev pub FitByRows : List World → List Form → ℕ → Type 0
FitByRows worlds forms block = FitWorlds worlds forms

-- the solutions over the union of their triples
abbrev pub joint_rows : List World → QueryData → List Places
joint_rows worlds q = solutions_of (joint_world worlds).triples q

-- the plan of a join over all of them
abbrev pub joint_plan : List World → QueryData → List Address
joint_plan worlds q = plan (joint_world worlds) q.patterns (no_names_bound q)

-- how many pages may be awaited at once: one for each pattern, each row that is extended and each server, as far as 64 bits go
abbrev pub most_pages : ℕ → ℕ → ℕ → ℕ
most_pages patterns window servers = min (patterns * (window * servers)) 18446744073709551615

-- no version is reported: each server has its own
abbrev pub none_reported : Option ℕ → Option ℕ
none_reported version = None
