-- The first place that a search of the kit finds.
use Rattle.std.proofs.Common.{ℕ, zero, suc, ◌≡◌, ◌+◌, Bool, true, false, List, [], ◌∷◌, Option, Some, None, refl, ap, sym, ◌∙◌, arith}
use Rattle.std.proofs.lemmas.Bool.{true≢false}
use Rattle.memchr.specs.Find.{IsFirstByte}
use Rattle.nquads_text.specs.Scan.{first_place}

-- what a search from the second byte on says
later_none : (test : ℕ → Bool) (b : ℕ) (bs : List ℕ) → IsFirstByte test (b ∷ bs) None → IsFirstByte test bs None
later_none test b bs h k low high = h (suc k) (omega arith) (omega (arith, high))

later_some : (test : ℕ → Bool) (b : ℕ) (bs : List ℕ) (k : ℕ) → IsFirstByte test (b ∷ bs) (Some (suc k)) → IsFirstByte test bs (Some k)
later_some test b bs k h = (record { low = omega arith; high = omega (arith, h.0.high); before = λ j low high. h.0.before (suc j) (omega arith) (omega (arith, high)) }, h.1)

abbrev pub Found : (ℕ → Bool) → ℕ → List ℕ → Option ℕ → Type 0
Found test i bytes None = first_place test i bytes ≡ None
Found test i bytes (Some k) = first_place test i bytes ≡ Some (i + k)

at_step : (t : Bool) (test : ℕ → Bool) (i b : ℕ) (bs : List ℕ) (r : Option ℕ) → test b ≡ t → ((r : Option ℕ) → IsFirstByte test bs r → Found test (i + 1) bs r) → IsFirstByte test (b ∷ bs) r → Found test i (b ∷ bs) r
at_step true test i b bs None e ih h = absurd (h 0 (omega arith) (omega arith) e)
at_step true test i b bs (Some zero) e ih h = let at : i ≡ i + 0 = omega arith in rw e (ap (λ (k : ℕ). Some k) at)
at_step true test i b bs (Some (suc k)) e ih h = absurd (h.0.before 0 (omega arith) (omega arith) e)
at_step false test i b bs None e ih h = let later : first_place test (i + 1) bs ≡ None = ih None (later_none test b bs h) in rw e later
at_step false test i b bs (Some zero) e ih h = absurd (true≢false (sym h.1 ∙ e))
at_step false test i b bs (Some (suc k)) e ih h =
    let later : first_place test (i + 1) bs ≡ Some ((i + 1) + k) = ih (Some k) (later_some test b bs k h) in
    let at : (i + 1) + k ≡ i + suc k = omega arith in
    rw e (later ∙ ap (λ (j : ℕ). Some j) at)

found : (test : ℕ → Bool) (i : ℕ) (bytes : List ℕ) (r : Option ℕ) → IsFirstByte test bytes r → Found test i bytes r
found test i [] None h = refl
found test i [] (Some k) h = absurd (omega (arith, h.0.high))
found test i (b ∷ bs) r h = at_step (test b) test i b bs r refl (λ q. found test (i + 1) bs q) h

from_start : (test : ℕ → Bool) (bytes : List ℕ) (r : Option ℕ) → Found test 0 bytes r → r ≡ first_place test 0 bytes
from_start test bytes None h = sym h
from_start test bytes (Some k) h = let at : k ≡ 0 + k = omega arith in ap (λ (j : ℕ). Some j) at ∙ sym h

-- the place that a search finds is the first place
pub first_byte : (test : ℕ → Bool) (bytes : List ℕ) (r : Option ℕ) → IsFirstByte test bytes r → r ≡ first_place test 0 bytes
first_byte test bytes r h = from_start test bytes r (found test 0 bytes r h)
