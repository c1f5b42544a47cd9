-- The block that grows until a row does not fit is the longest one.
use Rattle.std.proofs.Common.{ℕ, zero, suc, ◌≡◌, ◌+◌, ◌-◌, ◌<◌, ◌≤◌, ◌&&◌, nat_le, nat_lt, min, Bool, true, false, if◌then◌else◌, List, [], ◌∷◌, ◌++◌, length, map, take, refl, ap, sym, subst, ◌∙◌, arith, get_or, length-take}
use Rattle.std.proofs.lemmas.List.{take_more}
use Rattle.std.specs.List.{list_any, AllByRecursion}
use Rattle.std.proofs.lemmas.Bool.{and_right}
use Rattle.std.proofs.lemmas.Bool.Decides.{nat_tests}
use Rattle.rdf_terms.specs.declared.slots.Slots.{Slots}
use Rattle.tpf_base.specs.Addresses.{Address, IsAddress, target_of}
use Rattle.template_fill.specs.declared.form.Form.{Form}
use Rattle.template_fill.specs.Forms.{form_text}
use Rattle.bgp_core.specs.declared.pattern.Pattern.{Pattern}
use Rattle.bgp_core.specs.Solutions.{Places}
use Rattle.bgp_core.specs.Instances.{instance, bound_places}
use Rattle.request_plan.specs.declared.block.TheConstants.{LONGEST_TARGET}
use Rattle.request_plan.specs.declared.block.Target.{Target}
use Rattle.request_plan.specs.Blocks.{Cut, slots_eq, distinct_behind, distinct_slots, selection_for, all_fit, longest_front, form_cut}
use Rattle.request_plan.specs.Targets.{IsTarget, HasAddress, grown, rows_length}
use Rattle.request_plan.proofs.Distinct.{stands-there, stands-new, places-push}
use Rattle.request_plan.proofs.Targets.{longer-target as longer-by-rows, rows_length-cons, rows_length-more}

-- ---- the text of more rows is no shorter

longer-step : (s : Slots) (x y z v : List Slots) (b : Bool) → rows_length x ≤ rows_length y → rows_length z ≤ rows_length v → rows_length (if b then x else s ∷ z) ≤ rows_length (if b then y else s ∷ v)
longer-step s x y z v true h g = h
longer-step s x y z v false h g = omega (arith, g, rows_length-cons s z, rows_length-cons s v)

longer : (f : Places → Slots) (before : List Slots) (n : ℕ) (rows : List Places) → rows_length (distinct_behind before (map f (take n rows))) ≤ rows_length (distinct_behind before (map f (take (suc n) rows)))
longer f before zero rows = omega arith
longer f before (suc n) [] = omega arith
longer f before (suc n) (row ∷ rows) =
    longer-step (f row) _ _ _ _ (list_any (λ other. slots_eq other (f row)) before) (longer f before n rows) (longer f (before ++ f row ∷ []) n rows)

-- the target of two rows and more
target-is : (form : Form) (n : ℕ) (p : Pattern) (x : Address) → IsAddress (form_text form (instance p [])) x → (a b : Places) (rows : List Places) → (form_cut form n).target (selection_for p (a ∷ b ∷ rows)) ≡ length (target_of x) + rows_length (distinct_slots (map (bound_places p) (a ∷ b ∷ rows)))
target-is form n p x is a b rows = longer-by-rows (form_text form (instance p [])) x is (bound_places p a) (distinct_behind (bound_places p a ∷ []) (map (bound_places p) (b ∷ rows)))

target-grows : (form : Form) (m : ℕ) (p : Pattern) → HasAddress form p → (a b : Places) (rows : List Places) (n : ℕ)
    → (form_cut form m).target (selection_for p (a ∷ b ∷ take n rows)) ≤ (form_cut form m).target (selection_for p (a ∷ b ∷ take (suc n) rows))
target-grows form m p has a b rows n =
    let more = longer (bound_places p) [] (suc (suc n)) (a ∷ b ∷ rows) in
    omega (arith, more, target-is form m p has.address has.alone a b (take n rows), target-is form m p has.address has.alone a b (take (suc n) rows))

-- ---- so what fits does so with a row less

le-less : (a b d : ℕ) → a ≤ b → nat_le b d ≡ true → nat_le a d ≡ true
le-less a b d h e = grind (arith, nat_tests)

and-less : (a b c d : Bool) → (a ≡ true → c ≡ true) → (b ≡ true → d ≡ true) → (a && b) ≡ true → (c && d) ≡ true
and-less true true c d h g e = ap (λ (x : Bool). x && d) (h refl) ∙ g refl
and-less true false c d h g e = cc
and-less false b c d h g e = cc

fits-over : (form : Form) (m : ℕ) (a b : Places) (rows : List Places) (n : ℕ) (ps : List Pattern) → AllByRecursion (HasAddress form) ps
    → all_fit (form_cut form m) ps (a ∷ b ∷ take (suc n) rows) ≡ true → all_fit (form_cut form m) ps (a ∷ b ∷ take n rows) ≡ true
fits-over form m a b rows n [] has e = refl
fits-over form m a b rows n (p ∷ ps) has e =
    and-less _ _ _ _
    (le-less ((form_cut form m).target (selection_for p (a ∷ b ∷ take n rows))) ((form_cut form m).target (selection_for p (a ∷ b ∷ take (suc n) rows))) LONGEST_TARGET (target-grows form m p has.0 a b rows n))
    (fits-over form m a b rows n ps has.1) e

abbrev Shrinks : Cut → List Pattern → List Places → Type 0
Shrinks cut ps rows = (n : ℕ) → all_fit cut ps (take (suc (suc (suc n))) rows) ≡ true → all_fit cut ps (take (suc (suc n)) rows) ≡ true

shrinks : (form : Form) (m : ℕ) (ps : List Pattern) (rows : List Places) → AllByRecursion (HasAddress form) ps → Shrinks (form_cut form m) ps rows
shrinks form m ps [] has n e = e
shrinks form m ps (a ∷ []) has n e = e
shrinks form m ps (a ∷ b ∷ rows) has n e = fits-over form m a b rows n ps has e

-- ---- the longest front

not-true : (b c : Bool) → (b ≡ true → c ≡ true) → c ≡ false → b ≡ false
not-true true c h e = let t = h refl in cc
not-true false c h e = refl

is-top : (cut : Cut) (ps : List Pattern) (rows : List Places) (n : ℕ) → 1 ≤ n → (2 ≤ n → all_fit cut ps (take n rows) ≡ true) → longest_front cut ps rows n ≡ n
is-top cut ps rows zero h fit = absurd (omega arith)
is-top cut ps rows (suc zero) h fit = refl
is-top cut ps rows (suc (suc n)) h fit = ap (λ (b : Bool). if b then suc (suc n) else longest_front cut ps rows (suc n)) (fit (omega arith))

none-step : (cut : Cut) (ps : List Pattern) (rows : List Places) (n j : ℕ) (b : Bool) → nat_lt n (suc (suc j)) ≡ b → n < suc (suc (suc j)) → Shrinks cut ps rows → all_fit cut ps (take (suc n) rows) ≡ false → (n < suc (suc j) → all_fit cut ps (take (suc (suc j)) rows) ≡ false) → all_fit cut ps (take (suc (suc (suc j))) rows) ≡ false
none-step cut ps rows n j true t below s e more = not-true _ _ (s j) (more (grind (arith, nat_tests)))
none-step cut ps rows n j false t below s e more = let same : n ≡ suc (suc j) = grind (arith, nat_tests) in subst (λ (k : ℕ). all_fit cut ps (take (suc k) rows) ≡ false) same e

none-longer : (cut : Cut) (ps : List Pattern) (rows : List Places) (n most : ℕ) → n < most → 1 ≤ n → Shrinks cut ps rows → all_fit cut ps (take (suc n) rows) ≡ false → all_fit cut ps (take most rows) ≡ false
none-longer cut ps rows n zero below low s e = absurd (omega arith)
none-longer cut ps rows n (suc zero) below low s e = absurd (omega arith)
none-longer cut ps rows n (suc (suc zero)) below low s e = let same : n ≡ 1 = omega arith in subst (λ (k : ℕ). all_fit cut ps (take (suc k) rows) ≡ false) same e
none-longer cut ps rows n (suc (suc (suc j))) below low s e = none-step cut ps rows n j (nat_lt n (suc (suc j))) refl below s e (λ less. none-longer cut ps rows n (suc (suc j)) less low s e)

down-step : (cut : Cut) (ps : List Pattern) (rows : List Places) (n k : ℕ) (b : Bool) → nat_lt n (suc k) ≡ b → n < suc (suc k) → 1 ≤ n → (2 ≤ n → all_fit cut ps (take n rows) ≡ true) → (n < suc k → longest_front cut ps rows (suc k) ≡ n) → longest_front cut ps rows (suc k) ≡ n
down-step cut ps rows n k true t below low fit more = more (grind (arith, nat_tests))
down-step cut ps rows n k false t below low fit more = let same : n ≡ suc k = grind (arith, nat_tests) in subst (λ (m : ℕ). longest_front cut ps rows m ≡ n) same (is-top cut ps rows n low fit)

down : (cut : Cut) (ps : List Pattern) (rows : List Places) (n most : ℕ) → n < most → 1 ≤ n → Shrinks cut ps rows → all_fit cut ps (take (suc n) rows) ≡ false → (2 ≤ n → all_fit cut ps (take n rows) ≡ true) → longest_front cut ps rows most ≡ n
down cut ps rows n zero below low s e fit = absurd (omega arith)
down cut ps rows n (suc zero) below low s e fit = absurd (omega arith)
down cut ps rows n (suc (suc k)) below low s e fit =
    ap (λ (b : Bool). if b then suc (suc k) else longest_front cut ps rows (suc k)) (none-longer cut ps rows n (suc (suc k)) below low s e)
    ∙ down-step cut ps rows n k (nat_lt n (suc k)) refl below low fit (λ less. down cut ps rows n (suc k) less low s e fit)

-- ---- growing reaches it

grow-step : (cut : Cut) (ps : List Pattern) (rows : List Places) (more n most : ℕ) (b : Bool) → all_fit cut ps (take (suc n) rows) ≡ b → n < most → 1 ≤ n → Shrinks cut ps rows → (2 ≤ n → all_fit cut ps (take n rows) ≡ true) → (all_fit cut ps (take (suc n) rows) ≡ true → grown cut ps rows (suc n) more ≡ longest_front cut ps rows most) → (if b then grown cut ps rows (suc n) more else n) ≡ longest_front cut ps rows most
grow-step cut ps rows more n most true e below low s fit next = next e
grow-step cut ps rows more n most false e below low s fit next = sym (down cut ps rows n most below low s e fit)

grows : (cut : Cut) (ps : List Pattern) (rows : List Places) (more n most : ℕ) → most ≡ n + more → 1 ≤ n → Shrinks cut ps rows → (2 ≤ n → all_fit cut ps (take n rows) ≡ true) → grown cut ps rows n more ≡ longest_front cut ps rows most
grows cut ps rows zero n most is low s fit = let same : n ≡ most = omega (arith, is) in sym (subst (λ (m : ℕ). longest_front cut ps rows m ≡ n) same (is-top cut ps rows n low fit))
grows cut ps rows (suc more) n most is low s fit =
    grow-step cut ps rows more n most (all_fit cut ps (take (suc n) rows)) refl (omega (arith, is)) low s fit (λ e. grows cut ps rows more (suc n) most (omega (arith, is)) (omega arith) s (λ two. e))

from-one : (cut : Cut) (ps : List Pattern) (rows : List Places) (most : ℕ) → Shrinks cut ps rows → grown cut ps rows 1 (most - 1) ≡ longest_front cut ps rows most
from-one cut ps rows zero s = refl
from-one cut ps rows (suc most) s = let less : most ≡ suc most - 1 = omega arith in subst (λ (m : ℕ). grown cut ps rows 1 m ≡ longest_front cut ps rows (suc most)) less (grows cut ps rows most 1 (suc most) (omega arith) (omega arith) s (λ two. absurd (omega (arith, two))))

-- the front that grows until a row does not fit is the longest
pub grows-to-longest : (form : Form) (m : ℕ) (ps : List Pattern) (rows : List Places) (most : ℕ) → AllByRecursion (HasAddress form) ps → grown (form_cut form m) ps rows 1 (most - 1) ≡ longest_front (form_cut form m) ps rows most
grows-to-longest form m ps rows most has = from-one (form_cut form m) ps rows most (shrinks form m ps rows has)

-- ---- one pattern after another

fits-below : (cut : Cut) (ps : List Pattern) (rows : List Places) (n : ℕ) → Shrinks cut ps rows → all_fit cut ps (take (suc (suc n)) rows) ≡ true → 2 ≤ suc n → all_fit cut ps (take (suc n) rows) ≡ true
fits-below cut ps rows zero s e two = absurd (omega (arith, two))
fits-below cut ps rows (suc n) s e two = s n e

after-step : (cut : Cut) (p : Pattern) (ps : List Pattern) (rows : List Places) (n : ℕ) (b : Bool) → all_fit cut ps (take (suc (suc n)) rows) ≡ b → Shrinks cut ps rows
    → longest_front cut (p ∷ ps) rows (suc n) ≡ longest_front cut (p ∷ []) rows (longest_front cut ps rows (suc n))
    → longest_front cut (p ∷ ps) rows (suc (suc n)) ≡ longest_front cut (p ∷ []) rows (longest_front cut ps rows (suc (suc n)))
after-step cut p ps rows n true e s below =
    let fit = nat_le (cut.target (selection_for p (take (suc (suc n)) rows))) LONGEST_TARGET in
    let less = ap (λ (k : ℕ). longest_front cut (p ∷ []) rows k) (is-top cut ps rows (suc n) (omega arith) (fits-below cut ps rows n s e)) in
    let top = ap (λ (k : ℕ). longest_front cut (p ∷ []) rows k) (is-top cut ps rows (suc (suc n)) (omega arith) (λ two. e)) in
    ap (λ (b : Bool). if fit && b then suc (suc n) else longest_front cut (p ∷ ps) rows (suc n)) e ∙ ap (λ (k : ℕ). if fit && true then suc (suc n) else k) (below ∙ less) ∙ sym top
after-step cut p ps rows n false e s below =
    let fit = nat_le (cut.target (selection_for p (take (suc (suc n)) rows))) LONGEST_TARGET in
    let same = ap (λ (b : Bool). longest_front cut (p ∷ []) rows (if b then suc (suc n) else longest_front cut ps rows (suc n))) e in
    ap (λ (b : Bool). if fit && b then suc (suc n) else longest_front cut (p ∷ ps) rows (suc n)) e ∙ ap (λ (b : Bool). if b then suc (suc n) else longest_front cut (p ∷ ps) rows (suc n)) (and_right fit false refl) ∙ below ∙ sym same

after : (cut : Cut) (p : Pattern) (ps : List Pattern) (rows : List Places) → Shrinks cut ps rows → (n : ℕ) → longest_front cut (p ∷ ps) rows n ≡ longest_front cut (p ∷ []) rows (longest_front cut ps rows n)
after cut p ps rows s zero = refl
after cut p ps rows s (suc zero) = refl
after cut p ps rows s (suc (suc n)) = after-step cut p ps rows n (all_fit cut ps (take (suc (suc n)) rows)) refl s (after cut p ps rows s (suc n))

-- the longest front for some patterns, and in it the longest for one more
pub one-after-another : (form : Form) (m : ℕ) (p : Pattern) (ps : List Pattern) (rows : List Places) (n : ℕ) → AllByRecursion (HasAddress form) ps → longest_front (form_cut form m) (p ∷ ps) rows n ≡ longest_front (form_cut form m) (p ∷ []) rows (longest_front (form_cut form m) ps rows n)
one-after-another form m p ps rows n has = after (form_cut form m) p ps rows (shrinks form m ps rows has) n

-- ---- what is measured

-- a target that is measured is that of the block, as far as it matters
le-min : (a b m : ℕ) → b < m → nat_le (min a m) b ≡ nat_le a b
le-min a b m h = grind (arith, nat_tests)

target-fits : (form : Form) (n : ℕ) (p : Pattern) (rows : List Places) (t : Target) → 2 ≤ length rows → IsTarget form p rows t → nat_le t.length LONGEST_TARGET ≡ all_fit (form_cut form n) (p ∷ []) rows
target-fits form n p [] t two is = absurd (omega arith)
target-fits form n p (a ∷ []) t two is = absurd (omega arith)
target-fits form n p (a ∷ b ∷ rows) t two is =
    let exact = length (target_of is.alone.address) + rows_length (distinct_slots (map (bound_places p) (a ∷ b ∷ rows))) in
    ap (λ (k : ℕ). nat_le k LONGEST_TARGET) is.length
    ∙ le-min exact LONGEST_TARGET 18446744073709551615 (omega arith)
    ∙ ap (λ (k : ℕ). nat_le k LONGEST_TARGET) (sym (target-is form n p is.alone.address is.alone.alone a b rows))
    ∙ sym (and-true (nat_le ((form_cut form n).target (selection_for p (a ∷ b ∷ rows))) LONGEST_TARGET)) where
      and-true : (c : Bool) → (c && true) ≡ c
      and-true true = refl
      and-true false = refl

-- ---- one row more

more-rows : (rows : List Places) (n : ℕ) (row : Places) → n < length rows → row ≡ get_or rows n row → take n rows ++ row ∷ [] ≡ take (suc n) rows
more-rows rows n row h e =
    let one : n + 1 ≡ suc n = omega arith in
    ap (λ (r : Places). take n rows ++ r ∷ []) e ∙ sym (take_more rows n row h) ∙ ap (λ (k : ℕ). take k rows) one

one-fits : (form : Form) (m : ℕ) (p : Pattern) (rows : List Places) (n : ℕ) (row : Places) (t : Target) → 1 ≤ n → n < length rows → row ≡ get_or rows n row → IsTarget form p (take n rows ++ row ∷ []) t → nat_le t.length LONGEST_TARGET ≡ all_fit (form_cut form m) (p ∷ []) (take (suc n) rows)
one-fits form m p rows n row t low h e is =
    target-fits form m p (take (suc n) rows) t (omega (arith, low, h, length-take (suc n) rows)) (subst (λ (l : List Places). IsTarget form p l t) (more-rows rows n row h e) is)

grown-if : (cut : Cut) (ps : List Pattern) (rows : List Places) (n most : ℕ) → n < most → grown cut ps rows n (most - n) ≡ (if all_fit cut ps (take (suc n) rows) then grown cut ps rows (suc n) (most - suc n) else n)
grown-if cut ps rows n most h =
    let one : most - n ≡ suc (most - suc n) = omega (arith, h) in
    ap (λ (k : ℕ). grown cut ps rows n k) one

-- the target with one row more is short, and the block goes on; or it is too long, and the block ends
pub grows-on : (form : Form) (m : ℕ) (p : Pattern) (rows : List Places) (n most : ℕ) (row : Places) (t : Target) → 1 ≤ n → n < most → most ≤ length rows → row ≡ get_or rows n row → IsTarget form p (take n rows ++ row ∷ []) t → nat_le t.length LONGEST_TARGET ≡ true
    → grown (form_cut form m) (p ∷ []) rows n (most - n) ≡ grown (form_cut form m) (p ∷ []) rows (n + 1) (most - (n + 1))
grows-on form m p rows n most row t low h high e is fit =
    let one : suc n ≡ n + 1 = omega arith in
    grown-if (form_cut form m) (p ∷ []) rows n most h
    ∙ ap (λ (b : Bool). if b then grown (form_cut form m) (p ∷ []) rows (suc n) (most - suc n) else n) (sym (one-fits form m p rows n row t low (omega (arith, h, high)) e is) ∙ fit)
    ∙ ap (λ (k : ℕ). grown (form_cut form m) (p ∷ []) rows k (most - k)) one

pub grows-no-more : (form : Form) (m : ℕ) (p : Pattern) (rows : List Places) (n most : ℕ) (row : Places) (t : Target) → 1 ≤ n → n < most → most ≤ length rows → row ≡ get_or rows n row → IsTarget form p (take n rows ++ row ∷ []) t → nat_le t.length LONGEST_TARGET ≡ false
    → grown (form_cut form m) (p ∷ []) rows n (most - n) ≡ n
grows-no-more form m p rows n most row t low h high e is long =
    grown-if (form_cut form m) (p ∷ []) rows n most h
    ∙ ap (λ (b : Bool). if b then grown (form_cut form m) (p ∷ []) rows (suc n) (most - suc n) else n) (sym (one-fits form m p rows n row t low (omega (arith, h, high)) e is) ∙ long)

pub grown-whole : (cut : Cut) (ps : List Pattern) (rows : List Places) (n most : ℕ) → n ≡ most → grown cut ps rows n (most - n) ≡ most
grown-whole cut ps rows n most e = let none : most - n ≡ 0 = omega (arith, e) in ap (λ (k : ℕ). grown cut ps rows n k) none ∙ e

pub target-more : (form : Form) (p : Pattern) (rows : List Places) (n : ℕ) (row : Places) (t : Target) → n < length rows → row ≡ get_or rows n row → IsTarget form p (take n rows ++ row ∷ []) t → IsTarget form p (take (n + 1) rows) t
target-more form p rows n row t h e is =
    let one : suc n ≡ n + 1 = omega arith in
    subst (λ (k : ℕ). IsTarget form p (take k rows) t) one (subst (λ (l : List Places). IsTarget form p l t) (more-rows rows n row h e) is)

-- ---- what a target takes

pub same-target : (form : Form) (p : Pattern) (rows : List Places) (row : Places) (t new : Target) → IsTarget form p rows t → new.places.items ≡ t.places.items → new.length ≡ t.length → list_any (λ other. slots_eq other (bound_places p row)) t.places.items ≡ true → IsTarget form p (rows ++ row ∷ []) new
same-target form p rows row t new is items long there =
    let d = distinct_slots (map (bound_places p) rows) in
    let here : list_any (λ other. slots_eq other (bound_places p row)) d ≡ true = subst (λ (l : List Slots). list_any (λ other. slots_eq other (bound_places p row)) l ≡ true) is.places there in
    let same : d ≡ distinct_slots (map (bound_places p) (rows ++ row ∷ [])) = sym (stands-there d (bound_places p row) here) ∙ places-push p rows row in
    record {
      alone = is.alone;
      places = items ∙ is.places ∙ same;
      length = long ∙ is.length ∙ ap (λ (l : List Slots). min (length (target_of is.alone.address) + rows_length l) 18446744073709551615) same;
    }

pub longer-target : (form : Form) (p : Pattern) (rows : List Places) (row : Places) (t new : Target) (places : Slots) (more : ℕ) → places ≡ bound_places p row → IsTarget form p rows t → new.places.items ≡ t.places.items ++ places ∷ [] → more ≡ rows_length (places ∷ []) → new.length ≡ min (t.length + more) 18446744073709551615 → list_any (λ other. slots_eq other places) t.places.items ≡ false → IsTarget form p (rows ++ row ∷ []) new
longer-target form p rows row t new places more own is items size long there =
    let d = distinct_slots (map (bound_places p) rows) in
    let here : list_any (λ other. slots_eq other (bound_places p row)) d ≡ false = subst (λ (s : Slots). list_any (λ other. slots_eq other s) d ≡ false) own (subst (λ (l : List Slots). list_any (λ other. slots_eq other places) l ≡ false) is.places there) in
    let same : d ++ places ∷ [] ≡ distinct_slots (map (bound_places p) (rows ++ row ∷ [])) = ap (λ (s : Slots). d ++ s ∷ []) own ∙ sym (stands-new d (bound_places p row) here) ∙ places-push p rows row in
    record {
      alone = is.alone;
      places = items ∙ ap (λ (l : List Slots). l ++ places ∷ []) is.places ∙ same;
      length =
          long
          ∙ omega (arith, size, is.length, rows_length-more d places)
          ∙ ap (λ (l : List Slots). min (length (target_of is.alone.address) + rows_length l) 18446744073709551615) same;
    }
