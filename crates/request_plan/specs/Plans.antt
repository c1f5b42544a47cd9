-- The plan: what a query has to ask for, block by block, and the rows that it finds (Verborgh et al., Triple Pattern Fragments; in blocks of rows Hartig and Buil-Aranda, bindings-restricted Triple Pattern Fragments).
use Rattle.std.specs.Prelude.{ℕ, zero, suc, ◌≡◌, ◌-◌, Bool, if◌then◌else◌, nat_le, List, [], ◌∷◌, ◌++◌, length, map, drop, Some, slice_index_or, slice_get}
use Rattle.std.specs.List.{flat_map, filter, remove, list_all, All, AllByRecursion}
use Rattle.tpf_base.specs.Addresses.{Address}
use Rattle.rdf_terms.specs.declared.term.Term.{Term}
use Rattle.rdf_terms.specs.declared.term.Triple.{Triple}
use Rattle.rdf_terms.specs.Askable.{askable}
use Rattle.rdf_terms.specs.Valid.{IsValidTerm}
use Rattle.rdf_terms.specs.Selections.{Selection}
use Rattle.bgp_core.specs.declared.pattern.Pattern.{Pattern}
use Rattle.bgp_core.specs.Solutions.{Places, extension, rows_from, solutions}
use Rattle.bgp_core.specs.Instances.{instance}
use Rattle.bgp_core.specs.Queries.{HasPlacesFor}
use Rattle.request_plan.specs.Rounds.{RoundData, addresses_in}
use Rattle.request_plan.specs.Blocks.{Cut, blocks, selection_for}
use Rattle.request_plan.specs.Worlds.{World, numbers, cut_of}

-- ---- rows

-- each term of the row is valid
abbrev pub IsValidRow : Places → Type 0
IsValidRow row = (n : ℕ) (t : Term) → slice_get row n ≡ Some (Some t) → IsValidTerm t

-- each row has a place for each name of the patterns
abbrev pub HavePlacesFor : List Pattern → List Places → Type 0
HavePlacesFor ps rows = All (λ row. AllByRecursion (HasPlacesFor (length row)) ps) rows

-- the row that a pattern makes of a row by a triple, if there is one
abbrev pub found_of : Pattern → Places → Triple → List Places
found_of p row t = rows_from (extension p row t) (λ r. r ∷ [])

-- the rows that it makes of a block by a triple, in their order
abbrev pub found_by : Pattern → List Places → Triple → List Places
found_by p rows t = flat_map (λ row. found_of p row t) rows

-- the rows that a pattern makes of a block by some triples: by the triples in their order, and then the rows
abbrev pub found : Pattern → List Places → List Triple → List Places
found p rows ts = flat_map (λ t. found_by p rows t) ts

-- the solutions of some patterns under each of the rows
abbrev pub solutions_under : World → List Pattern → List Places → List Places
solutions_under w ps rows = flat_map (solutions w.triples ps) rows

-- ---- the plan

-- the rounds of the pages after the first k
abbrev pub rounds_after : World → Selection → ℕ → List RoundData
rounds_after w s k = map (w.round s) (numbers (suc k) (w.last s - k))

abbrev pub first_rounds : World → List Places → List Pattern → List RoundData
first_rounds w rows ps = map (λ p. w.round (selection_for p rows) 1) ps

abbrev pub all_askable : Places → List Pattern → Bool
all_askable row ps = list_all (λ p. askable (instance p row)) ps

-- the rows under which all of the patterns can be asked for
abbrev pub askable_rows : List Pattern → List Places → List Places
askable_rows ps rows = filter (λ row. all_askable row ps) rows

-- the place of the least number, the first on a tie
abbrev pub least : List ℕ → ℕ
least [] = 0
least (n ∷ ns) = if list_all (λ m. nat_le n m) ns then 0 else suc (least ns)

abbrev pub counts : World → List Places → List Pattern → List ℕ
counts w rows ps = map (λ p. w.count (selection_for p rows)) ps

abbrev pub Plans : Type 0
Plans = List Pattern → List Places → List RoundData

-- what the triples of a page make of a block, cut into blocks; rows under which a pattern cannot be asked for are left out
abbrev pub page_blocks : Cut → Pattern → List Pattern → List Places → List Triple → List (List Places)
page_blocks cut p others rows ts = blocks cut others (askable_rows others (found p rows ts))

-- the plans of the blocks of a page
abbrev pub page_plans : Cut → Plans → Pattern → List Pattern → List Places → List Triple → List RoundData
page_plans cut plans p others rows ts = flat_map (plans others) (page_blocks cut p others rows ts)

-- the plans of the blocks of each page after the first k
abbrev pub plans_over : World → Plans → Pattern → List Pattern → List Places → ℕ → List RoundData
plans_over w plans p others rows k = flat_map (λ n. page_plans (cut_of w) plans p others rows (w.items (selection_for p rows) n)) (numbers k (w.last (selection_for p rows) - k))

-- the pattern number i is chosen: the pages after its first one, and the plans of the blocks of all its pages
abbrev pub chosen_plan : World → Plans → ℕ → Pattern → List Pattern → List Places → List RoundData
chosen_plan w plans i p ps rows = rounds_after w (selection_for (slice_index_or ps i p) rows) 1 ++ plans_over w plans (slice_index_or ps i p) (remove ps i) rows 0

-- the first pages but n, and the rest of the plan; nothing where no pattern or no row is left
abbrev pub asking_plan : World → Plans → ℕ → List Pattern → List Places → List RoundData
asking_plan w plans n [] rows = []
asking_plan w plans n (p ∷ ps) [] = []
asking_plan w plans n (p ∷ ps) (row ∷ rows) =
    first_rounds w (row ∷ rows) (drop n (p ∷ ps)) ++ chosen_plan w plans (least (counts w (row ∷ rows) (p ∷ ps))) p (p ∷ ps) (row ∷ rows)

-- the plan for at most n patterns, of the rows under which all can be asked for
abbrev pub plan_for : World → ℕ → Plans
plan_for w zero ps rows = []
plan_for w (suc n) ps rows = asking_plan w (plan_for w n) 0 ps (askable_rows ps rows)

-- the rounds that the patterns need under a block of rows
abbrev pub round_plan : World → Plans
round_plan w ps rows = plan_for w (length ps) ps rows

-- the addresses of the rounds that the patterns need under a row
abbrev pub plan : World → List Pattern → Places → List Address
plan w ps row = addresses_in (round_plan w ps (row ∷ []))
