-- What a block asks a pattern for can be asked for, and is valid.
use Rattle.std.proofs.Common.{ℕ, zero, suc, ◌≡◌, ◌<◌, ◌≤◌, Bool, true, false, cond, List, [], ◌∷◌, ◌++◌, length, map, refl, ap, arith}
use Rattle.std.specs.List.{All, AllByRecursion, list_all, list_any}
use Rattle.std.proofs.lemmas.List.Elements.{All-head, All-tail}
use Rattle.std.proofs.lemmas.Bool.{and_from, and_parts}
use Rattle.list_laws.proofs.Tests.{all_three}
use Rattle.rdf_terms.specs.declared.term.Term.{Term}
use Rattle.rdf_terms.specs.declared.limits.TheConstants.{MOST_ROWS}
use Rattle.rdf_terms.specs.declared.slots.Slots.{Slots}
use Rattle.rdf_terms.specs.Askable.{slot_allows, is_iri_term, is_iri_or_literal, askable}
use Rattle.rdf_terms.specs.Kept.{IsValidSlot, AreValid}
use Rattle.rdf_terms.specs.Selections.{IsValidSelection}
use Rattle.bgp_core.specs.declared.pattern.Part.{Part}
use Rattle.bgp_core.specs.declared.pattern.Part.TheVariants.{Fixed, Name}
use Rattle.bgp_core.specs.declared.pattern.Pattern.{Pattern}
use Rattle.bgp_core.specs.Solutions.{Places, term_at}
use Rattle.bgp_core.specs.Instances.{slot_of, slot, instance, bound_slot, bound_places}
use Rattle.bgp_core.specs.Queries.{IsValidPattern}
use Rattle.request_plan.specs.Blocks.{slots_eq, distinct_behind, distinct_slots, selection_for, is_askable}
use Rattle.request_plan.specs.Plans.{IsValidRow}
use Rattle.request_plan.proofs.Matching.{three}
use Rattle.request_plan.proofs.Valid.{slot-valid, instance-valid}

-- ---- it can be asked for

none-bound : (test : Term → Bool) (n : ℕ) → slot_allows test (slot_of (term_at [] n)) ≡ true
none-bound test zero = refl
none-bound test (suc n) = refl

free-allows : (test : Term → Bool) (row : Places) (q : Part) → slot_allows test (slot row q) ≡ true → slot_allows test (slot [] q) ≡ true
free-allows test row (Fixed t) h = h
free-allows test row (Name n) h = none-bound test n

bound-allows : (test : Term → Bool) (row : Places) (q : Part) → slot_allows test (slot row q) ≡ true → slot_allows test (bound_slot row q) ≡ true
bound-allows test row (Fixed t) h = refl
bound-allows test row (Name n) h = h

pub free-askable : (p : Pattern) (row : Places) → askable (instance p row) ≡ true → askable (instance p []) ≡ true
free-askable p row h =
    let e = three _ _ _ h in
    all_three _ _ _ (free-allows is_iri_term row p.subject e.0) (free-allows is_iri_term row p.predicate e.1) (free-allows is_iri_or_literal row p.object e.2)

pub bound-askable : (p : Pattern) (row : Places) → askable (instance p row) ≡ true → askable (bound_places p row) ≡ true
bound-askable p row h =
    let e = three _ _ _ h in
    all_three _ _ _ (bound-allows is_iri_term row p.subject e.0) (bound-allows is_iri_term row p.predicate e.1) (bound-allows is_iri_or_literal row p.object e.2)

distinct-step : (test : Slots → Bool) (s : Slots) (xs ys : List Slots) (b : Bool) → test s ≡ true → list_all test xs ≡ true → list_all test ys ≡ true → list_all test (cond b xs (s ∷ ys)) ≡ true
distinct-step test s xs ys true one h g = h
distinct-step test s xs ys false one h g = and_from (test s) (list_all test ys) one g

distinct-all : (test : Slots → Bool) (before ss : List Slots) → list_all test ss ≡ true → list_all test (distinct_behind before ss) ≡ true
distinct-all test before [] h = refl
distinct-all test before (s ∷ ss) h =
    let e = and_parts (test s) (list_all test ss) h in
    distinct-step test s (distinct_behind before ss) (distinct_behind (before ++ s ∷ []) ss) (list_any (λ other. slots_eq other s) before) e.0 (distinct-all test before ss e.1) (distinct-all test (before ++ s ∷ []) ss e.1)

bound-all : (p : Pattern) (rows : List Places) → All (λ row. askable (instance p row) ≡ true) rows → list_all askable (map (bound_places p) rows) ≡ true
bound-all p [] h = refl
bound-all p (row ∷ rows) h =
    and_from (askable (bound_places p row)) _ (bound-askable p row (All-head (λ r. askable (instance p r) ≡ true) row rows h)) (bound-all p rows (All-tail (λ r. askable (instance p r) ≡ true) row rows h))

pub selection-askable : (p : Pattern) (rows : List Places) → 0 < length rows → All (λ row. askable (instance p row) ≡ true) rows → is_askable (selection_for p rows) ≡ true
selection-askable p [] some h = absurd (omega arith)
selection-askable p (row ∷ []) some h = All-head (λ r. askable (instance p r) ≡ true) row [] h
selection-askable p (row ∷ other ∷ rows) some h =
    let all : List Places = row ∷ other ∷ rows in
    and_from (list_all askable (distinct_slots (map (bound_places p) all))) (askable (instance p [])) (distinct-all askable [] (map (bound_places p) all) (bound-all p all h)) (free-askable p row (All-head (λ r. askable (instance p r) ≡ true) row (other ∷ rows) h))

-- ---- it is valid

bound-slot-valid : (row : Places) (q : Part) → IsValidRow row → IsValidSlot (bound_slot row q)
bound-slot-valid row (Fixed t) h = tt
bound-slot-valid row (Name n) h = slot-valid row (Name n) tt h

pub bound-valid : (p : Pattern) (row : Places) → IsValidRow row → AreValid (bound_places p row)
bound-valid p row h = record { subject = bound-slot-valid row p.subject h; predicate = bound-slot-valid row p.predicate h; object = bound-slot-valid row p.object h }

empty-valid : IsValidRow []
empty-valid zero u e = cc
empty-valid (suc k) u e = cc

every-step : (P : Slots → Type 0) (s : Slots) (xs ys : List Slots) (b : Bool) → P s → AllByRecursion P xs → AllByRecursion P ys → AllByRecursion P (cond b xs (s ∷ ys))
every-step P s xs ys true one h g = h
every-step P s xs ys false one h g = (one, g)

distinct-every : (P : Slots → Type 0) (before ss : List Slots) → AllByRecursion P ss → AllByRecursion P (distinct_behind before ss)
distinct-every P before [] h = tt
distinct-every P before (s ∷ ss) h =
    every-step P s (distinct_behind before ss) (distinct_behind (before ++ s ∷ []) ss) (list_any (λ other. slots_eq other s) before) h.0 (distinct-every P before ss h.1) (distinct-every P (before ++ s ∷ []) ss h.1)

bound-every : (p : Pattern) (rows : List Places) → All IsValidRow rows → AllByRecursion AreValid (map (bound_places p) rows)
bound-every p [] h = tt
bound-every p (row ∷ rows) h = (bound-valid p row (All-head IsValidRow row rows h), bound-every p rows (All-tail IsValidRow row rows h))

length-step : (s : Slots) (xs ys : List Slots) (n : ℕ) (b : Bool) → length xs ≤ n → length ys ≤ n → length (cond b xs (s ∷ ys)) ≤ suc n
length-step s xs ys n true h g = omega (arith, h)
length-step s xs ys n false h g = omega (arith, g)

distinct-few : (before ss : List Slots) → length (distinct_behind before ss) ≤ length ss
distinct-few before [] = omega arith
distinct-few before (s ∷ ss) =
    length-step s (distinct_behind before ss) (distinct_behind (before ++ s ∷ []) ss) (length ss) (list_any (λ other. slots_eq other s) before) (distinct-few before ss) (distinct-few (before ++ s ∷ []) ss)

length-bound : (p : Pattern) (rows : List Places) → length (map (bound_places p) rows) ≡ length rows
length-bound p [] = refl
length-bound p (row ∷ rows) = ap suc (length-bound p rows)

pub selection-valid : (p : Pattern) (rows : List Places) → IsValidPattern p → All IsValidRow rows → length rows ≤ MOST_ROWS → IsValidSelection (selection_for p rows)
selection-valid p [] v h few = record { slots = instance-valid p [] v empty-valid; rows = tt; few = omega arith }
selection-valid p (row ∷ []) v h few = record { slots = instance-valid p row v (All-head IsValidRow row [] h); rows = tt; few = omega arith }
selection-valid p (row ∷ other ∷ rows) v h few =
    let all : List Places = row ∷ other ∷ rows in
    record {
      slots = instance-valid p [] v empty-valid;
      rows = distinct-every AreValid [] (map (bound_places p) all) (bound-every p all h);
      few = let less = distinct-few [] (map (bound_places p) all) in omega (arith, few, less, length-bound p all);
    }
