-- What stands between the marks of a form: the reader and the grammar agree.
use Rattle.std.proofs.Common.{ℕ, ◌≡◌, ◌+◌, inl, inr, Bool, if◌then◌else◌, false, true, ◌&&◌, List, [], ◌∷◌, ◌++◌, length, take, drop, Option, Some, nat_eq, refl, ap, sym, subst, ◌∙◌, arith}
use Rattle.std.proofs.lemmas.Option.{same_Some}
use Rattle.list_laws.proofs.Lists.{front_of, behind_mark}
use Rattle.list_laws.proofs.Options.{bind_some}
use Rattle.list_laws.specs.Options.{◌>>=◌}
use Rattle.nquads_text.specs.declared.scan.Awaits.{Awaits}
use Rattle.nquads_text.specs.declared.scan.Awaits.TheVariants.{Item, Escape, Digits}
use Rattle.nquads_text.specs.Scan.{is_item, opened, digits_after, form_step, form_end}
use Rattle.nquads_text.specs.Raw.{form_part}
use Rattle.nquads_text.specs.Grammar.{is_form_byte, is_short_escape, IsFormItem, ReadsForm}
use Rattle.nquads_text.proofs.Items.{Scans, Partial, Next, goes, plain_step, numeric_end, text_end, whole_next, item_next, escape_next, digit_next, end_text, opened_some}

-- ---- from the grammar to the reader

form_scans : Scans 34 form_step form_end
form_scans = record { nothing = λ s i. refl; goes_on = λ s i b bs. refl; is_mark = refl; no_mark = refl; backslash = refl; four = refl; eight = refl; hex = λ more b. refl }

pub form_goes : (s u : Awaits) (i b : ℕ) (bs : List ℕ) → (is_item s && nat_eq b 34) ≡ false → form_step s b ≡ Some u → form_end s i (b ∷ bs) ≡ form_end u (i + 1) bs
form_goes s u i b bs z e = goes form_scans s u i b bs z e

pub form_not : (b : ℕ) → is_form_byte b ≡ true → (nat_eq b 34 ≡ false) × (nat_eq b 92 ≡ false)
form_not b h = (grind (arith, h), grind (arith, h))

form_item : (item : List ℕ) (i : ℕ) (rest : List ℕ) → IsFormItem item → form_end Item i (item ++ rest) ≡ form_end Item (i + length item) rest
form_item item i rest (inl plain) =
    let p = form_not plain.0 plain.2 in
    let at : form_end Item i (plain.0 ∷ rest) ≡ form_end Item (i + 1) rest = form_goes Item Item i plain.0 rest p.0 (plain_step (nat_eq plain.0 92) (is_form_byte plain.0) p.1 plain.2) in
    subst (λ (l : List ℕ). form_end Item i (l ++ rest) ≡ form_end Item (i + length l) rest) (sym plain.1) at
form_item item i rest (inr (inl short)) =
    let step : ◌≡◌ {A = Option Awaits} (if is_short_escape short.0 then Some Item else digits_after short.0) (Some Item) = rw short.2 refl in
    let place : (i + 1) + 1 ≡ i + 2 = omega arith in
    let at : form_end Item i (92 ∷ short.0 ∷ rest) ≡ form_end Item (i + 2) rest = form_goes Escape Item (i + 1) short.0 rest refl step ∙ ap (λ (k : ℕ). form_end Item k rest) place in
    subst (λ (l : List ℕ). form_end Item i (l ++ rest) ≡ form_end Item (i + length l) rest) (sym short.1) at
form_item item i rest (inr (inr numeric)) = numeric_end form_scans item i rest numeric

pub form_part-at : (bytes text rest : List ℕ) → ReadsForm bytes text rest → form_part bytes ≡ Some (text, rest)
unfolding form_part
form_part-at bytes text rest r =
    let end : form_end Item 0 (text ++ 34 ∷ rest) ≡ Some (length text) = text_end form_scans IsFormItem form_item text rest r.0 in
    let at : form_part (34 ∷ (text ++ 34 ∷ rest)) ≡ Some (text, rest) = rw (end, front_of text (34 ∷ rest), behind_mark text rest 34) refl in
    subst (λ (l : List ℕ). form_part l ≡ Some (text, rest)) (sym r.1) at

-- ---- from the reader to the grammar

short_next : (j : Bool) (b : ℕ) (u : Awaits) → is_short_escape b ≡ j → ◌≡◌ {A = Option Awaits} (if j then Some Item else digits_after b) (Some u) → Next IsFormItem (92 ∷ []) b u
short_next true b u d f = subst (λ (u : Awaits). Next IsFormItem (92 ∷ []) b u) (same_Some Item u f) (whole_next IsFormItem (92 ∷ []) b (inr (inl (b, refl, d))))
short_next false b u d f = escape_next IsFormItem (nat_eq b 117) (nat_eq b 85) b u refl refl f

form_next : (s u : Awaits) (b : ℕ) (front : List ℕ) → Partial s front → form_step s b ≡ Some u → Next IsFormItem front b u
form_next Item u b front p e = subst (λ (l : List ℕ). Next IsFormItem l b u) (sym p) (item_next IsFormItem (is_form_byte b) (nat_eq b 92) b u (λ h. inl (b, refl, h)) refl e)
form_next Escape u b front p e = subst (λ (l : List ℕ). Next IsFormItem l b u) (sym p) (short_next (is_short_escape b) b u refl e)
form_next (Digits more) u b front p e = digit_next IsFormItem (λ item h. inr (inr h)) more b u front p e

pub form_part-some : (bytes : List ℕ) (p : List ℕ × List ℕ) → form_part bytes ≡ Some p → ReadsForm bytes p.0 p.1
unfolding form_part
form_part-some bytes p e =
    let a = bind_some (opened 34 bytes) (λ (inside : List ℕ). form_end Item 0 inside >>= λ n. let r : Option (List ℕ × List ℕ) = Some (take n inside, drop (n + 1) inside) in r) p e in
    let b = bind_some (form_end Item 0 a.0) (λ (n : ℕ). let r : Option (List ℕ × List ℕ) = Some (take n a.0, drop (n + 1) a.0) in r) p a.2 in
    let at : ◌≡◌ {A = List ℕ × List ℕ} (take b.0 a.0, drop (b.0 + 1) a.0) p = same_Some _ p b.2 in
    let f = end_text IsFormItem form_scans form_next a.0 b.0 b.1 in
    let whole : bytes ≡ 34 ∷ (take b.0 a.0 ++ 34 ∷ drop (b.0 + 1) a.0) = opened_some 34 bytes a.0 a.1 ∙ ap (λ (l : List ℕ). 34 ∷ l) f.1 in
    subst (λ (q : List ℕ × List ℕ). ReadsForm bytes q.0 q.1) at (f.0, whole)
