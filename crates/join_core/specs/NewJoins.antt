-- What a join is before its first event.
use Rattle.std.specs.Prelude.{ℕ, ◌≡◌, List, [], length}
use Rattle.tpf_base.specs.Addresses.{Address}
use Rattle.template_fill.specs.declared.form.Form.{Form}
use Rattle.bgp_core.specs.Queries.{QueryData}
use Rattle.bgp_core.specs.Solutions.{no_names_bound}
use Rattle.request_plan.specs.Worlds.{World, IsWorld, HasForms}
use Rattle.request_plan.specs.Rounds.{FormsAtHome}
use Rattle.request_plan.specs.Beginnings.{terms_of}
use Rattle.join_core.specs.Joins.{JoinData, Begins, Opens, tickets_out}
use Rattle.join_core.specs.Sound.{KeepsTo, IsKeptSmall}

-- The join of a query's patterns at these forms, before its first event: at most so many nodes are to work at a time, each of at most so many rows. No ticket was given.
pub record IsNewJoin (query : QueryData) (at : List Form) (most rows : ℕ) (j : JoinData) : Type 0 where
  pub begins : (w : World) → IsWorld w → HasForms w at → w.block ≡ rows → Begins w query.patterns (no_names_bound query) j
  pub opens : Opens query.patterns (no_names_bound query) j
  pub forms : j.forms ≡ at
  pub window : j.window ≡ most
  pub block : j.block ≡ rows
  pub longest : j.longest ≡ 1
  pub keeps : (homes : List Address) → FormsAtHome homes at → KeepsTo (terms_of homes query) j
  pub small : IsKeptSmall (length query.patterns) 1 j
  pub tickets : (j.tickets ≡ 0) × (tickets_out j ≡ [])
