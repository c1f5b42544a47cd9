-- Rows, read value by value.
use Rattle.std.proofs.Common.{◌≡◌, ℕ, suc, ◌+◌, ◌≤◌, Bool, true, false, List, [], ◌∷◌, ◌++◌, map, length, Option, Some, None, refl, ap, sym, subst, ◌∙◌, arith, append-nil, length-append, le-leb, if◌then◌else◌}
use Rattle.std.specs.Prelude.{codes, bytes_eq, nat_le, IfSome}
use Rattle.std.specs.List.{filter}
use Rattle.std.specs.Str.{is_utf8}
use Rattle.std.proofs.lemmas.Grind.{common_steps}
use Rattle.percent_encoding.specs.Percent.{percent_decode}
use Rattle.list_laws.proofs.Lists.{snoc_append}
use Rattle.rdf_terms.specs.declared.slots.Slots.{Slots}
use Rattle.rdf_terms.specs.declared.limits.TheConstants.{MOST_ROWS}
use Rattle.template_fill.specs.ReadAddress.{when, ◌>>=◌}
use Rattle.template_fill.specs.Explicit.{slot_of}
use Rattle.template_fill.specs.Forms.{HasNoBlank, HasNoBlankSlot}
use Rattle.template_fill.specs.Rows.{accepted, few_rows_of, places_between, row_of, rows_of, slot_in_row}
use Rattle.template_fill.specs.Answers.{rows_under, values_under}
use Rattle.tpf_server.specs.declared.rows.RowValues.{RowValues}
use Rattle.tpf_server.specs.declared.rows.RowValues.TheVariants.{Read, Refused}
use Rattle.tpf_server.specs.Parameters.{row_added, row_noted, row_noted_if, rows_found}
use Rattle.tpf_server.proofs.Questions.{accepted_fits, all_fit, slot_fits, slots_first}

-- ---- no row has a blank node

place_fits : (is_text : Bool) (text : List ℕ) → IfSome (when is_text text >>= (λ (form : List ℕ). accepted (slot_of form))) HasNoBlankSlot
place_fits true text = accepted_fits (slot_of text) (slot_fits text)
place_fits false text = tt

in_row_fits : (text : List ℕ) → IfSome (slot_in_row text) HasNoBlankSlot
in_row_fits text = place_fits (is_utf8 (percent_decode text)) (percent_decode text)

places_fit : (places : Option (List ℕ × List ℕ × List ℕ)) → IfSome (places >>= (λ (p : List ℕ × List ℕ × List ℕ). slots_first (slot_in_row p.0) (slot_in_row p.1) (slot_in_row p.2))) HasNoBlank
places_fit None = tt
places_fit (Some p) = all_fit (slot_in_row p.0) (slot_in_row p.1) (slot_in_row p.2) (in_row_fits p.0) (in_row_fits p.1) (in_row_fits p.2)

value_fits : (value : List ℕ) → IfSome (row_of value) HasNoBlank
unfolding row_of
value_fits value = places_fit (places_between value)

pub row_fits : (value : List ℕ) (row : Slots) → Some row ≡ row_of value → HasNoBlank row
row_fits value row is = subst (λ (o : Option Slots). IfSome o HasNoBlank) (sym is) (value_fits value)

-- ---- one value after another

abbrev pub rows_after : Bool → RowValues → List (List ℕ × List ℕ) → RowValues
rows_after reads rows [] = rows
rows_after reads rows (pair ∷ pairs) = rows_after reads (row_noted_if reads pair.0 pair.1 rows) pairs

abbrev with_values : RowValues → List (List ℕ) → RowValues
with_values rows [] = rows
with_values rows (value ∷ values) = with_values (row_noted rows value) values

passed_over : (rows : RowValues) (pairs : List (List ℕ × List ℕ)) → rows_after false rows pairs ≡ rows
passed_over rows [] = refl
passed_over rows (pair ∷ pairs) = passed_over rows pairs

after_if : (named : Bool) (rows : RowValues) (pair : List ℕ × List ℕ) (pairs : List (List ℕ × List ℕ))
    → ((later : RowValues) → rows_after true later pairs ≡ with_values later (values_under (codes "row") pairs))
    → rows_after true (if named then row_noted rows pair.1 else rows) pairs
    ≡ with_values rows (map (λ (p : List ℕ × List ℕ). p.1) (if named then pair ∷ filter (λ (p : List ℕ × List ℕ). bytes_eq p.0 (codes "row")) pairs else filter (λ (p : List ℕ × List ℕ). bytes_eq p.0 (codes "row")) pairs))
after_if true rows pair pairs again = again (row_noted rows pair.1)
after_if false rows pair pairs again = again rows

after_is : (rows : RowValues) (pairs : List (List ℕ × List ℕ)) → rows_after true rows pairs ≡ with_values rows (values_under (codes "row") pairs)
after_is rows [] = refl
after_is rows (pair ∷ pairs) = after_if (bytes_eq pair.0 (codes "row")) rows pair pairs (λ later. after_is later pairs)

refused_stay : (values : List (List ℕ)) → with_values Refused values ≡ Refused
refused_stay [] = refl
refused_stay (value ∷ values) = refused_stay values

-- rows, and then those that were read behind them
abbrev joined : List Slots → Option (List Slots) → Option (List Slots)
joined rows None = None
joined rows (Some later) = Some (rows ++ later)

-- what values give behind so many rows
abbrev read_behind : List Slots → Bool → List (List ℕ) → RowValues
read_behind rows few values = rows_found (joined rows (when few values >>= rows_of))

too_many : (n most : ℕ) → suc most ≤ n → nat_le n most ≡ false
too_many n most h = grind (arith, h)

at_least : (n m : ℕ) → nat_le m n ≡ true → m ≤ n
at_least n m h = grind (arith, h)

below : (n m : ℕ) → nat_le m n ≡ false → suc n ≤ m
below n m h = grind (arith, h)

none_read : (few : Bool) (rows : List Slots) (value : List ℕ) (values : List (List ℕ)) → None ≡ row_of value → Refused ≡ read_behind rows few (value ∷ values)
none_read false rows value values none = refl
none_read true rows value values none = ap (λ (row : Option Slots). rows_found (joined rows (row >>= (λ (r : Slots). rows_of values >>= (λ (later : List Slots). Some (r ∷ later)))))) none

joined_on : (rows : List Slots) (row : Slots) (later : Option (List Slots)) → joined (rows ++ row ∷ []) later ≡ joined rows (later >>= (λ (l : List Slots). Some (row ∷ l)))
joined_on rows row None = refl
joined_on rows row (Some later) = ap (λ (l : List Slots). Some l) (snoc_append rows row later)

one_read : (few : Bool) (rows : List Slots) (row : Slots) (value : List ℕ) (values : List (List ℕ)) → Some row ≡ row_of value → read_behind (rows ++ row ∷ []) few values ≡ read_behind rows few (value ∷ values)
one_read false rows row value values is = refl
one_read true rows row value values is =
    ap rows_found (joined_on rows row (rows_of values))
    ∙ ap (λ (o : Option Slots). rows_found (joined rows (o >>= (λ (r : Slots). rows_of values >>= (λ (later : List Slots). Some (r ∷ later)))))) is

next_read : (full : Bool) (row : Option Slots) (rows : List Slots) (value : List ℕ) (values : List (List ℕ)) → nat_le MOST_ROWS (length rows) ≡ full → row ≡ row_of value
    → ((later : List Slots) → length later ≤ MOST_ROWS → with_values (Read later) values ≡ read_behind later (nat_le (length later + length values) MOST_ROWS) values)
    → with_values (if full then Refused else row_added rows row) values ≡ read_behind rows (nat_le (length rows + suc (length values)) MOST_ROWS) (value ∷ values)
next_read true row rows value values many is again =
    refused_stay values
    ∙ sym (ap (λ (few : Bool). read_behind rows few (value ∷ values)) (too_many (length rows + suc (length values)) MOST_ROWS (omega (arith, at_least (length rows) MOST_ROWS many))))
next_read false None rows value values many is again = refused_stay values ∙ none_read (nat_le (length rows + suc (length values)) MOST_ROWS) rows value values is
next_read false (Some row) rows value values many is again =
    let more : length (rows ++ row ∷ []) ≡ suc (length rows) = omega (arith, length-append rows (row ∷ [])) in
    let same : length (rows ++ row ∷ []) + length values ≡ length rows + suc (length values) = omega (arith, more) in
    again (rows ++ row ∷ []) (omega (arith, more, below (length rows) MOST_ROWS many))
    ∙ ap (λ (n : ℕ). read_behind (rows ++ row ∷ []) (nat_le n MOST_ROWS) values) same
    ∙ one_read (nat_le (length rows + suc (length values)) MOST_ROWS) rows row value values is

values_read : (rows : List Slots) (values : List (List ℕ)) → length rows ≤ MOST_ROWS → with_values (Read rows) values ≡ read_behind rows (nat_le (length rows + length values) MOST_ROWS) values
values_read rows [] few =
    ap (λ (l : List Slots). Read l) (sym (append-nil rows))
    ∙ sym (ap (λ (b : Bool). read_behind rows b []) (le-leb (length rows + length {A = List ℕ} []) MOST_ROWS (omega (arith, few))))
values_read rows (value ∷ values) few =
    next_read (nat_le MOST_ROWS (length rows)) (row_of value) rows value values refl refl (λ later within. values_read later values within)

joined_none : (later : Option (List Slots)) → joined [] later ≡ later
joined_none None = refl
joined_none (Some later) = refl

pub all_rows : (reads : Bool) (pairs : List (List ℕ × List ℕ)) → rows_after reads (Read []) pairs ≡ rows_found (rows_under reads pairs)
all_rows false pairs = passed_over (Read []) pairs
all_rows true pairs =
    let values = values_under (codes "row") pairs in
    let same : length {A = Slots} [] + length values ≡ length values = omega arith in
    after_is (Read []) pairs
    ∙ values_read [] values (omega arith)
    ∙ ap (λ (n : ℕ). read_behind [] (nat_le n MOST_ROWS) values) same
    ∙ ap rows_found (joined_none (few_rows_of values))

-- ---- one row more

below_limit : (m n : ℕ) → n + 1 ≤ m → nat_le m n ≡ false
below_limit m n h = grind (arith, common_steps)

pub row_beyond : (rows : List Slots) (value : List ℕ) → MOST_ROWS ≤ length rows → Refused ≡ row_noted (Read rows) value
row_beyond rows value many = sym (ap (λ (b : Bool). if b then Refused else row_added rows (row_of value)) (le-leb MOST_ROWS (length rows) many))

pub one_row_more : (rows : List Slots) (value : List ℕ) (row : Option Slots) → length rows + 1 ≤ MOST_ROWS → row ≡ row_of value → row_added rows row ≡ row_noted (Read rows) value
one_row_more rows value row few is =
    ap (row_added rows) is ∙ sym (ap (λ (b : Bool). if b then Refused else row_added rows (row_of value)) (below_limit MOST_ROWS (length rows) few))
