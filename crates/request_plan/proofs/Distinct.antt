-- Places that stand once each.
use Rattle.std.proofs.Common.{ℕ, suc, arith, ◌≡◌, ◌+◌, ◌<◌, get_or, length, take, ◌||◌, Bool, true, false, if◌then◌else◌, List, [], ◌∷◌, ◌++◌, map, refl, ap, sym, ◌∙◌, append_assoc, append-nil}
use Rattle.std.specs.List.{list_any}
use Rattle.std.proofs.lemmas.List.{take_more}
use Rattle.rdf_terms.specs.declared.slots.Slot.{Slot}
use Rattle.rdf_terms.specs.declared.slots.Slot.TheVariants.{Any, Fixed}
use Rattle.rdf_terms.specs.declared.slots.Slots.{Slots}
use Rattle.rdf_terms.specs.contracts.slots.SlotPartialEq.TheImpl.{ghosts as slot_derived}
use Rattle.rdf_terms.specs.contracts.slots.SlotsPartialEq.TheImpl.{ghosts as slots_derived}
use Rattle.bgp_core.specs.declared.pattern.Pattern.{Pattern}
use Rattle.bgp_core.specs.Solutions.{Places}
use Rattle.bgp_core.specs.Instances.{bound_places}
use Rattle.request_plan.specs.Blocks.{slot_eq, slots_eq, distinct_behind, distinct_slots}
use Rattle.request_plan.specs.Targets.{with_distinct}

-- ---- the equality that slots derive is that of the definition

slot-same : (a b : Slot) → slot_derived.eq a b ≡ slot_eq a b
slot-same Any Any = refl
slot-same Any (Fixed u) = refl
slot-same (Fixed t) Any = refl
slot-same (Fixed t) (Fixed u) = refl

slots-same : (a b : Slots) → slots_derived.eq a b ≡ slots_eq a b
slots-same a b = rw (slot-same a.subject b.subject, slot-same a.predicate b.predicate, slot-same a.object b.object) refl

pub found-is : (ss : List Slots) (s : Slots) → list_any (λ other. slots_derived.eq other s) ss ≡ list_any (λ other. slots_eq other s) ss
found-is [] s = refl
found-is (t ∷ ss) s = ap (λ (b : Bool). b || list_any (λ other. slots_derived.eq other s) ss) (slots-same t s) ∙ ap (λ (b : Bool). slots_eq t s || b) (found-is ss s)

-- ---- one more

distinct-more-step : (before : List Slots) (x s : Slots) (xs : List Slots) (b : Bool)
    → distinct_behind before (xs ++ s ∷ []) ≡ (if list_any (λ other. slots_eq other s) (before ++ distinct_behind before xs) then distinct_behind before xs else distinct_behind before xs ++ s ∷ [])
    → distinct_behind (before ++ x ∷ []) (xs ++ s ∷ []) ≡ (if list_any (λ other. slots_eq other s) ((before ++ x ∷ []) ++ distinct_behind (before ++ x ∷ []) xs) then distinct_behind (before ++ x ∷ []) xs else distinct_behind (before ++ x ∷ []) xs ++ s ∷ [])
    → (if b then distinct_behind before (xs ++ s ∷ []) else x ∷ distinct_behind (before ++ x ∷ []) (xs ++ s ∷ [])) ≡ (if list_any (λ other. slots_eq other s) (before ++ (if b then distinct_behind before xs else x ∷ distinct_behind (before ++ x ∷ []) xs)) then (if b then distinct_behind before xs else x ∷ distinct_behind (before ++ x ∷ []) xs) else (if b then distinct_behind before xs else x ∷ distinct_behind (before ++ x ∷ []) xs) ++ s ∷ [])
distinct-more-step before x s xs true one other = one
distinct-more-step before x s xs false one other =
    let d = distinct_behind (before ++ x ∷ []) xs in
    ap (λ l. x ∷ l) other
    ∙ ap (λ (l : List Slots). x ∷ (if list_any (λ other. slots_eq other s) l then d else d ++ s ∷ [])) (append_assoc before (x ∷ []) d)
    ∙ moved x (list_any (λ other. slots_eq other s) (before ++ x ∷ d)) d (d ++ s ∷ []) where
      moved : (y : Slots) (b : Bool) (us vs : List Slots) → y ∷ (if b then us else vs) ≡ (if b then y ∷ us else y ∷ vs)
      moved y true us vs = refl
      moved y false us vs = refl

distinct-more : (before ss : List Slots) (s : Slots) → distinct_behind before (ss ++ s ∷ []) ≡ (if list_any (λ other. slots_eq other s) (before ++ distinct_behind before ss) then distinct_behind before ss else distinct_behind before ss ++ s ∷ [])
distinct-more before [] s = ap (λ (l : List Slots). if list_any (λ other. slots_eq other s) l then [] else s ∷ []) (sym (append-nil before))
distinct-more before (x ∷ xs) s = distinct-more-step before x s xs (list_any (λ other. slots_eq other x) before) (distinct-more before xs s) (distinct-more (before ++ x ∷ []) xs s)

pub distinct-push : (ss : List Slots) (s : Slots) → with_distinct (distinct_slots ss) s ≡ distinct_slots (ss ++ s ∷ [])
distinct-push ss s = sym (distinct-more [] ss s)

-- places that stand there already, and others
pub stands-there : (ss : List Slots) (s : Slots) → list_any (λ other. slots_eq other s) ss ≡ true → with_distinct ss s ≡ ss
stands-there ss s e = ap (λ (b : Bool). if b then ss else ss ++ s ∷ []) e

pub stands-new : (ss : List Slots) (s : Slots) → list_any (λ other. slots_eq other s) ss ≡ false → with_distinct ss s ≡ ss ++ s ∷ []
stands-new ss s e = ap (λ (b : Bool). if b then ss else ss ++ s ∷ []) e

map-push : (f : Places → Slots) (rows : List Places) (row : Places) → map f (rows ++ row ∷ []) ≡ map f rows ++ f row ∷ []
map-push f [] row = refl
map-push f (r ∷ rows) row = ap (λ (l : List Slots). f r ∷ l) (map-push f rows row)

pub places-push : (p : Pattern) (rows : List Places) (row : Places) → with_distinct (distinct_slots (map (bound_places p) rows)) (bound_places p row) ≡ distinct_slots (map (bound_places p) (rows ++ row ∷ []))
places-push p rows row = distinct-push (map (bound_places p) rows) (bound_places p row) ∙ ap distinct_slots (sym (map-push (bound_places p) rows row))

-- after one row more of a block
pub places-next : (p : Pattern) (block : List Places) (n : ℕ) (row : Places) (had new : List Slots) → n < length block → row ≡ get_or block n row → had ≡ distinct_slots (map (bound_places p) (take n block)) → new ≡ with_distinct had (bound_places p row) → new ≡ distinct_slots (map (bound_places p) (take (n + 1) block))
places-next p block n row had new h e before is =
    is ∙ ap (λ (l : List Slots). with_distinct l (bound_places p row)) before ∙ places-push p (take n block) row
    ∙ ap (λ (l : List Places). distinct_slots (map (bound_places p) l)) (ap (λ (r : Places). take n block ++ r ∷ []) e ∙ sym (take_more block n row h))

-- behind the first row of a block
pub places-behind : (p : Pattern) (block : List Places) (first : Places) (others items : List Places) (i : ℕ) (row : Places) (had new : List Slots) → first ∷ others ≡ block → items ≡ others → i < length items → row ≡ get_or items i row
    → had ≡ distinct_slots (map (bound_places p) (take (suc i) block)) → new ≡ with_distinct had (bound_places p row) → new ≡ distinct_slots (map (bound_places p) (take (suc (i + 1)) block))
places-behind p block first others items i row had new whole same h e before is =
    let all : first ∷ items ≡ block = ap (λ (l : List Places). first ∷ l) same ∙ whole in
    let place : row ≡ get_or block (suc i) row = e ∙ ap (λ (l : List Places). get_or l (suc i) row) all in
    let below : suc i < length block = omega (arith, h, ap length all) in
    let number : suc i + 1 ≡ suc (i + 1) = omega arith in
    places-next p block (suc i) row had new below place before is ∙ ap (λ (k : ℕ). distinct_slots (map (bound_places p) (take k block))) number
