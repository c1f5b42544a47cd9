-- What a block that grows asks of one pattern. Serves the contracts inside the crate alone.
use Rattle.std.specs.Prelude.{ℕ, zero, suc, ◌≡◌, ◌+◌, List, [], ◌∷◌, ◌++◌, length, map, min, take, drop, if◌then◌else◌}
use Rattle.std.specs.List.{list_any}
use Rattle.rdf_terms.specs.declared.slots.Slots.{Slots}
use Rattle.tpf_base.specs.Addresses.{Address, IsAddress, target_of}
use Rattle.template_fill.specs.declared.form.Form.{Form}
use Rattle.template_fill.specs.Forms.{form_text}
use Rattle.template_fill.specs.Rows.{rows_text}
use Rattle.bgp_core.specs.declared.pattern.Pattern.{Pattern}
use Rattle.bgp_core.specs.Solutions.{Places}
use Rattle.bgp_core.specs.Instances.{instance, bound_places}
use Rattle.request_plan.specs.declared.block.Target.{Target}
use Rattle.request_plan.specs.Blocks.{Cut, slots_eq, distinct_slots, all_fit, block_length}

-- one more at the end, unless it stands there already
abbrev pub with_distinct : List Slots → Slots → List Slots
with_distinct ss s = if list_any (λ other. slots_eq other s) ss then ss else ss ++ s ∷ []

-- how many bytes some rows take in an address
abbrev pub rows_length : List Slots → ℕ
rows_length ss = length (rows_text 38 ss)

-- the first page of the pattern alone has an address
pub record HasAddress (form : Form) (p : Pattern) : Type 0 where
  pub address : Address
  pub alone : IsAddress (form_text form (instance p [])) address

-- what these rows bind in the pattern, each once, and how long the target of its first page is with them; the length stands still
-- at its type's end
pub record IsTarget (form : Form) (p : Pattern) (rows : List Places) (t : Target) : Type 0 where
  pub alone : HasAddress form p
  pub places : t.places.items ≡ distinct_slots (map (bound_places p) rows)
  pub length : t.length ≡ min (length (target_of alone.address) + rows_length (distinct_slots (map (bound_places p) rows))) 18446744073709551615

-- from so many rows on at most so many more, up to the first that does not fit
abbrev pub grown : Cut → List Pattern → List Places → ℕ → ℕ → ℕ
grown cut ps rows n zero = n
grown cut ps rows n (suc more) = if all_fit cut ps (take (suc n) rows) then grown cut ps rows (suc n) more else n

-- ---- the lengths of blocks

abbrev pub lengths_for : Cut → List Pattern → ℕ → List Places → List ℕ
lengths_for cut ps zero rows = []
lengths_for cut ps (suc n) [] = []
lengths_for cut ps (suc n) (row ∷ rows) = block_length cut ps (row ∷ rows) ∷ lengths_for cut ps n (drop (block_length cut ps (row ∷ rows)) (row ∷ rows))

-- how many rows each of the blocks has
abbrev pub block_lengths : Cut → List Pattern → List Places → List ℕ
block_lengths cut ps rows = lengths_for cut ps (length rows) rows
