-- The plan row by row (Verborgh et al., Triple Pattern Fragments), and that blocks of one row have it.
use Rattle.std.specs.Prelude.{ℕ, zero, suc, ◌≡◌, List, [], ◌∷◌, ◌++◌, length, map, slice_index_or, if◌then◌else◌}
use Rattle.std.specs.List.{flat_map, remove}
use Rattle.tpf_base.specs.Addresses.{Address}
use Rattle.rdf_terms.specs.Selections.{all_of}
use Rattle.bgp_core.specs.declared.pattern.Pattern.{Pattern}
use Rattle.bgp_core.specs.Solutions.{Places, extension, rows_from}
use Rattle.bgp_core.specs.Instances.{instance}
use Rattle.request_plan.specs.Rounds.{RoundData, addresses_in}
use Rattle.request_plan.specs.Worlds.{World, items_after}
use Rattle.request_plan.specs.Plans.{all_askable, least, rounds_after, plan}

abbrev pub RowPlans : Type 0
RowPlans = List Pattern → Places → List RoundData

abbrev pub row_counts : World → Places → List Pattern → List ℕ
row_counts w row ps = map (λ p. w.count (all_of (instance p row))) ps

-- the pattern number i is chosen: its further pages, and the plans of all its matches
abbrev pub chosen_row_plan : World → RowPlans → ℕ → Pattern → List Pattern → Places → List RoundData
chosen_row_plan w plans i p ps row =
    rounds_after w (all_of (instance (slice_index_or ps i p) row)) 1
    ++ flat_map (λ t. rows_from (extension (slice_index_or ps i p) row t) (plans (remove ps i))) (items_after w (all_of (instance (slice_index_or ps i p) row)) 0)

abbrev pub row_plan_for : World → ℕ → RowPlans
row_plan_for w zero ps row = []
row_plan_for w (suc n) [] row = []
row_plan_for w (suc n) (p ∷ ps) row =
    if all_askable row (p ∷ ps)
    then map (λ q. w.round (all_of (instance q row)) 1) (p ∷ ps) ++ chosen_row_plan w (row_plan_for w n) (least (row_counts w row (p ∷ ps))) p (p ∷ ps) row
    else []

-- the first pages of all patterns; the further pages of the one with the least fragment; and the same for each of its matches and the others
abbrev pub row_plan : World → RowPlans
row_plan w ps row = row_plan_for w (length ps) ps row

-- the addresses of these rounds
abbrev pub row_addresses : World → List Pattern → Places → List Address
row_addresses w ps row = addresses_in (row_plan w ps row)

-- in blocks of one row each the plan is that row by row
abbrev pub BlocksOfOneAreRows : Type 0
BlocksOfOneAreRows = (w : World) (ps : List Pattern) (row : Places) → w.block ≡ 1 → plan w ps row ≡ row_addresses w ps row
