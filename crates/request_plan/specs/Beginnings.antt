-- What an evaluation owes before its first turn.
use Rattle.std.specs.Prelude.{ℕ, ◌≡◌, List, [], length, Option}
use Rattle.std.specs.List.Sorted.{IsPermutation}
use Rattle.tpf_base.specs.Addresses.{Address}
use Rattle.template_fill.specs.declared.form.Form.{Form}
use Rattle.bgp_core.specs.Queries.{QueryData}
pub use Rattle.bgp_core.specs.Solutions.{no_names_bound, solutions_of}
use Rattle.bgp_core.specs.Solutions.{Places}
use Rattle.request_plan.specs.Worlds.{World, IsWorld, IsOneServer, HasForms}
use Rattle.request_plan.specs.Plans.{plan}
use Rattle.request_plan.specs.Evaluations.{Account, Terms, Sizes}

-- the asks keep to these authorities, and each row has a place for each name of the query
abbrev pub terms_of : List Address → QueryData → Terms
terms_of homes q = record { homes = homes; width = length q.names }

-- as many patterns as the query has, and so many rows at a time
abbrev pub sizes_of : QueryData → ℕ → Sizes
sizes_of q rows = record { patterns = length q.patterns; window = rows }

-- these rows are owed, and these addresses are to be asked for; no ticket is out
pub record BeginsWith (rows : List Places) (addresses : List Address) (account : Account) : Type 0 where
  pub owed : IsPermutation rows account.owed
  pub left : IsPermutation addresses account.left
  pub out : account.out ≡ []

-- ---- one server

-- the world is that of one server, whose first pages have the addresses of the forms, and whose rounds ask for as many rows
pub record FitsWorld (w : World) (forms : List Form) (block : ℕ) : Type 0 where
  pub world : IsWorld w
  pub one : IsOneServer w
  pub forms_are : HasForms w forms
  pub rows : w.block ≡ block

-- the solutions over the triples of the world
abbrev pub world_rows : World → QueryData → List Places
world_rows w q = solutions_of w.triples q

-- the plan of the join, from the row with no name bound
abbrev pub world_plan : World → QueryData → List Address
world_plan w q = plan w q.patterns (no_names_bound q)

-- the version of the one server is the one that is reported
abbrev pub world_reported : Option ℕ → Option ℕ
world_reported version = version
