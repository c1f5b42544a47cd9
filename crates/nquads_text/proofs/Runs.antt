-- A form up to its first mark, and what is appended in steps.
use Rattle.std.proofs.Common.{ℕ, suc, ◌≡◌, ◌+◌, ◌<◌, ◌⊎◌, inl, inr, true, false, List, [], ◌∷◌, ◌++◌, length, take, drop, slice_index, Option, Some, None, Result, Ok, Err, refl, ap, sym, subst, ◌∙◌, arith, append_assoc}
use Rattle.std.specs.Prelude.{OnOk}
use Rattle.std.proofs.lemmas.List.{drop_more}
use Rattle.std.proofs.lemmas.Option.{same_Some}
use Rattle.rdf_terms.specs.Canon.{is_marked, canonical_byte, canonical_form}
use Rattle.nquads_text.specs.Scan.{first_place}
use Rattle.nquads_text.proofs.Lines.{chosen}

-- ---- the bytes of a form up to the first that is written with a backslash

plain_step : (i b : ℕ) (form : List ℕ) → (first_place is_marked (i + 1) form ≡ None → canonical_form form ≡ form)
    → ((is_marked b ≡ true) × (◌≡◌ {A = Option ℕ} (Some i) None)) ⊎ ((is_marked b ≡ false) × (first_place is_marked (i + 1) form ≡ None)) → canonical_form (b ∷ form) ≡ b ∷ form
plain_step i b form ih (inl here) = cc
plain_step i b form ih (inr later) = let plain : is_marked b ≡ false = later.0 in rw (plain, ih later.1) refl

pub plain_form : (i : ℕ) (form : List ℕ) → first_place is_marked i form ≡ None → canonical_form form ≡ form
plain_form i [] h = refl
plain_form i (b ∷ form) h = plain_step i b form (plain_form (i + 1) form) (chosen (is_marked b) (Some i) (first_place is_marked (i + 1) form) None h)

pub record Marked (i : ℕ) (form : List ℕ) (m : ℕ) : Type 0 where
  pub n : ℕ
  pub place : m ≡ i + n
  pub same : canonical_form form ≡ take n form ++ canonical_form (drop n form)

marked_step : (i b : ℕ) (form : List ℕ) (m : ℕ) → (first_place is_marked (i + 1) form ≡ Some m → Marked (i + 1) form m)
    → ((is_marked b ≡ true) × (◌≡◌ {A = Option ℕ} (Some i) (Some m))) ⊎ ((is_marked b ≡ false) × (first_place is_marked (i + 1) form ≡ Some m)) → Marked i (b ∷ form) m
marked_step i b form m ih (inl here) = let same : i ≡ m = same_Some i m here.1 in record { n = 0; place = omega (arith, same); same = refl }
marked_step i b form m ih (inr later) =
    let r = ih later.1 in
    let plain : is_marked b ≡ false = later.0 in
    let one : canonical_form (b ∷ form) ≡ b ∷ canonical_form form = rw plain refl in
    record { n = suc r.n; place = omega (arith, r.place); same = one ∙ ap (λ (l : List ℕ). b ∷ l) r.same }

marked_from : (i : ℕ) (form : List ℕ) (m : ℕ) → first_place is_marked i form ≡ Some m → Marked i form m
marked_from i [] m h = cc
marked_from i (b ∷ form) m h = marked_step i b form m (marked_from (i + 1) form m) (chosen (is_marked b) (Some i) (first_place is_marked (i + 1) form) (Some m) h)

-- what stands before the byte in place n is written as it is
pub marked_at : (form : List ℕ) (n : ℕ) → first_place is_marked 0 form ≡ Some n → n < length form → canonical_form form ≡ take n form ++ (canonical_byte (slice_index form n) ++ canonical_form (drop (n + 1) form))
marked_at form n h l =
    let r = marked_from 0 form n h in
    let same : r.n ≡ n = omega (arith, r.place) in
    subst (λ (k : ℕ). canonical_form form ≡ take k form ++ canonical_form (drop k form)) same r.same ∙ ap (λ (bs : List ℕ). take n form ++ canonical_form bs) (drop_more form n 0 l)

-- the bytes that are appended of such a form
pub run_is : (form old run byte rest : List ℕ) (n : ℕ) → first_place is_marked 0 form ≡ Some n → n < length form → run ≡ old ++ take n form → byte ≡ run ++ canonical_byte (slice_index form n) → rest ≡ drop (n + 1) form → byte ++ canonical_form rest ≡ old ++ canonical_form form
run_is form old run byte rest n h l r b d =
    ap (λ (x : List ℕ). byte ++ canonical_form x) d
    ∙ ap (λ (x : List ℕ). x ++ canonical_form (drop (n + 1) form)) b
    ∙ ap (λ (x : List ℕ). (x ++ canonical_byte (slice_index form n)) ++ canonical_form (drop (n + 1) form)) r
    ∙ append_assoc (old ++ take n form) (canonical_byte (slice_index form n)) (canonical_form (drop (n + 1) form))
    ∙ append_assoc old (take n form) (canonical_byte (slice_index form n) ++ canonical_form (drop (n + 1) form))
    ∙ ap (λ (x : List ℕ). old ++ x) (sym (marked_at form n h l))

-- what is appended in two steps, and in three
pub two_steps : {X E : Type 0} (r : Result X E) (old one new a b : List ℕ) → one ≡ old ++ a → OnOk r (new ≡ one ++ b) → OnOk r (new ≡ old ++ (a ++ b))
two_steps (Ok x) old one new a b p q = q ∙ ap (λ (l : List ℕ). l ++ b) p ∙ append_assoc old a b
two_steps (Err e) old one new a b p q = tt

pub three_steps : {X E : Type 0} (r : Result X E) (old one two new a b d : List ℕ) → one ≡ old ++ a → two ≡ one ++ b → OnOk r (new ≡ two ++ d) → OnOk r (new ≡ old ++ (a ++ (b ++ d)))
three_steps (Ok x) old one two new a b d p q s =
    s ∙ ap (λ (l : List ℕ). l ++ d) (q ∙ ap (λ (l : List ℕ). l ++ b) p) ∙ append_assoc (old ++ a) b d ∙ append_assoc old a (b ++ d)
three_steps (Err e) old one two new a b d p q s = tt

-- the bytes of a line behind those that stood there
line_at : (s p o g end : List ℕ) → (s ++ 32 ∷ (p ++ 32 ∷ o)) ++ (g ++ end) ≡ s ++ 32 ∷ (p ++ 32 ∷ ((o ++ g) ++ end))
line_at s p o g end =
    append_assoc s (32 ∷ (p ++ 32 ∷ o)) (g ++ end)
    ∙ ap (λ (l : List ℕ). s ++ 32 ∷ l) (append_assoc p (32 ∷ o) (g ++ end) ∙ ap (λ (l : List ℕ). p ++ 32 ∷ l) (sym (append_assoc o g end)))

pub line_is : {X E : Type 0} (r : Result X E) (old new s p o g end : List ℕ) → OnOk r (new ≡ old ++ ((s ++ 32 ∷ (p ++ 32 ∷ o)) ++ (g ++ end))) → OnOk r (new ≡ old ++ (s ++ 32 ∷ (p ++ 32 ∷ ((o ++ g) ++ end))))
line_is (Ok x) old new s p o g end h = h ∙ ap (λ (l : List ℕ). old ++ l) (line_at s p o g end)
line_is (Err e) old new s p o g end h = tt
