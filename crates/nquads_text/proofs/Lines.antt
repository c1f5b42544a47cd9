-- Where lines end, and lines behind others.
use Rattle.std.proofs.Common.{ℕ, suc, ◌≡◌, ◌+◌, ◌<◌, ◌⊎◌, inl, inr, Bool, if◌then◌else◌, true, false, ◌||◌, List, [], ◌∷◌, ◌++◌, length, take, drop, Option, Some, None, nat_eq, refl, ap, sym, subst, ◌∙◌, arith}
use Rattle.std.proofs.lemmas.Bool.{or_parts}
use Rattle.nquads_text.specs.Reads.{onto_first, lines_from, lines_of}
use Rattle.nquads_text.specs.Lines.{line_end, without_lf, after_end}

-- the lines after a line end at the front
abbrev lines_after : List ℕ → List (List ℕ)
lines_after [] = []
lines_after (b ∷ bs) = if nat_eq b 10 then lines_from false bs else lines_from true bs

pub chosen : {A : Type 0} (t : Bool) (x y z : A) → (if t then x else y) ≡ z → ((t ≡ true) × (x ≡ z)) ⊎ ((t ≡ false) × (y ≡ z))
chosen true x y z e = inl (refl, e)
chosen false x y z e = inr (refl, e)

either : (a b : Bool) → (a || b) ≡ true → (a ≡ true) ⊎ ((a ≡ false) × (b ≡ true))
either true b e = inl refl
either false b e = inr (refl, e)

begins_here : (b : ℕ) (bs : List ℕ) → (nat_eq b 10 ≡ true) ⊎ ((nat_eq b 10 ≡ false) × (nat_eq b 13 ≡ true)) → lines_from false (b ∷ bs) ≡ [] ∷ lines_after (b ∷ bs)
begins_here b bs (inl lf) = rw lf refl
begins_here b bs (inr cr) = rw (cr.0, cr.1) refl

goes_on : (b : ℕ) (bs : List ℕ) → (nat_eq b 10 ≡ false) × (nat_eq b 13 ≡ false) → lines_from false (b ∷ bs) ≡ onto_first b (lines_from false bs)
goes_on b bs p = rw (p.0, p.1) refl

-- after a CR, an LF at the front is passed over
after_cr_at : (b : ℕ) (bs : List ℕ) (t : Bool) → nat_eq b 10 ≡ t → lines_from true (b ∷ bs) ≡ lines_from false (if t then bs else b ∷ bs)
after_cr_at b bs true e = rw e refl
after_cr_at b bs false e = rw e refl

pub after_cr : (bs : List ℕ) → lines_from true bs ≡ lines_from false (without_lf bs)
after_cr [] = refl
after_cr (b ∷ bs) = after_cr_at b bs (nat_eq b 10) refl

not_both : (b : ℕ) → nat_eq b 13 ≡ true → nat_eq b 10 ≡ false
not_both b e = grind (arith, e)

one_of : (b : ℕ) (t u : Bool) → nat_eq b 13 ≡ t → nat_eq b 10 ≡ u → (bs : List ℕ) → (t || u) ≡ true → lines_after (b ∷ bs) ≡ lines_from false (after_end (b ∷ bs))
one_of b true u e f bs h = let other : nat_eq b 10 ≡ false = not_both b e in rw (other, e) (after_cr bs)
one_of b false true e f bs h = rw (f, e) refl
one_of b false false e f bs h = cc

turned : (a b : Bool) → (a || b) ≡ true → (b || a) ≡ true
turned true true e = e
turned true false e = e
turned false true e = e
turned false false e = e

ends_here : (b : ℕ) (bs : List ℕ) → (nat_eq b 10 || nat_eq b 13) ≡ true → lines_from false (b ∷ bs) ≡ [] ∷ lines_from false (after_end (b ∷ bs))
ends_here b bs h = begins_here b bs (either (nat_eq b 10) (nat_eq b 13) h) ∙ ap (λ (l : List (List ℕ)). [] ∷ l) (one_of b (nat_eq b 13) (nat_eq b 10) refl refl bs (turned (nat_eq b 10) (nat_eq b 13) h))

pub record Cut (i : ℕ) (bs : List ℕ) (m : ℕ) : Type 0 where
  pub n : ℕ
  pub place : m ≡ i + n
  pub lines : lines_from false bs ≡ take n bs ∷ lines_from false (after_end (drop n bs))

step : (i b : ℕ) (bs : List ℕ) (m : ℕ) → (line_end (i + 1) bs ≡ Some m → Cut (i + 1) bs m) → ((nat_eq b 10 || nat_eq b 13) ≡ true) × (◌≡◌ {A = Option ℕ} (Some i) (Some m)) ⊎ ((nat_eq b 10 || nat_eq b 13) ≡ false) × (line_end (i + 1) bs ≡ Some m) → Cut i (b ∷ bs) m
step i b bs m ih (inl here) = let same : i ≡ m = cc in record { n = 0; place = omega (arith, same); lines = ends_here b bs here.0 }
step i b bs m ih (inr later) =
    let c = ih later.1 in
    let all : lines_from false (b ∷ bs) ≡ onto_first b (take c.n bs ∷ lines_from false (after_end (drop c.n bs))) = goes_on b bs (or_parts (nat_eq b 10) (nat_eq b 13) later.0) ∙ ap (λ (l : List (List ℕ)). onto_first b l) c.lines in
    record { n = suc c.n; place = omega (arith, c.place); lines = all }

cut : (i : ℕ) (bs : List ℕ) (m : ℕ) → line_end i bs ≡ Some m → Cut i bs m
cut i [] m e = cc
cut i (b ∷ bs) m e = step i b bs m (cut (i + 1) bs m) (chosen (nat_eq b 10 || nat_eq b 13) (Some i) (line_end (i + 1) bs) (Some m) e)

pub lines_at : (bytes : List ℕ) (n : ℕ) → line_end 0 bytes ≡ Some n → lines_of bytes ≡ take n bytes ∷ lines_of (after_end (drop n bytes))
lines_at bytes n e =
    let c = cut 0 bytes n e in
    let same : c.n ≡ n = omega (arith, c.place) in
    subst (λ (k : ℕ). lines_of bytes ≡ take k bytes ∷ lines_of (after_end (drop k bytes))) same c.lines

last_step : (i b : ℕ) (bs : List ℕ) → (line_end (i + 1) bs ≡ None → onto_first b (lines_from false bs) ≡ (b ∷ bs) ∷ []) → ((nat_eq b 10 || nat_eq b 13) ≡ true) × (◌≡◌ {A = Option ℕ} (Some i) None) ⊎ ((nat_eq b 10 || nat_eq b 13) ≡ false) × (line_end (i + 1) bs ≡ None) → lines_from false (b ∷ bs) ≡ (b ∷ bs) ∷ []
last_step i b bs ih (inl here) = cc
last_step i b bs ih (inr later) = goes_on b bs (or_parts (nat_eq b 10) (nat_eq b 13) later.0) ∙ ih later.1

last_line : (i b : ℕ) (bs : List ℕ) → line_end i (b ∷ bs) ≡ None → lines_from false (b ∷ bs) ≡ (b ∷ bs) ∷ []
last_line i b [] e = last_step i b [] (λ h. refl) (chosen (nat_eq b 10 || nat_eq b 13) (Some i) (line_end (i + 1) []) None e)
last_line i b (c ∷ cs) e = last_step i b (c ∷ cs) (λ h. ap (λ (l : List (List ℕ)). onto_first b l) (last_line (i + 1) c cs h)) (chosen (nat_eq b 10 || nat_eq b 13) (Some i) (line_end (i + 1) (c ∷ cs)) None e)

pub lines_last : (bytes : List ℕ) → 0 < length bytes → line_end 0 bytes ≡ None → lines_of bytes ≡ bytes ∷ []
lines_last [] h e = absurd (omega arith)
lines_last (b ∷ bs) h e = last_line 0 b bs e

-- ---- lines behind others

-- where a byte stands in front, there is a first line
pub first_by : (lf is_cr : Bool) (b : ℕ) (one two three : List (List ℕ)) → (l : List ℕ) × (ls : List (List ℕ)) × ((if lf then [] ∷ one else (if is_cr then [] ∷ two else onto_first b three)) ≡ l ∷ ls)
first_by true k b one two three = ([], one, refl)
first_by false true b one two three = ([], two, refl)
first_by false false b one two [] = (b ∷ [], [], refl)
first_by false false b one two (line ∷ lines) = (b ∷ line, lines, refl)

-- a byte in front of the first line changes no line behind it
pub onto_append : (b : ℕ) (lines more : List (List ℕ)) → (l : List ℕ) × (ls : List (List ℕ)) × (lines ≡ l ∷ ls) → onto_first b (lines ++ more) ≡ onto_first b lines ++ more
onto_append b lines more f = subst (λ (x : List (List ℕ)). onto_first b (x ++ more) ≡ onto_first b x ++ more) (sym f.2) refl
