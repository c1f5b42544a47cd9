-- What stands between the marks of an IRI: the reader and the grammar agree.
use Rattle.std.proofs.Common.{ℕ, ◌≡◌, ◌+◌, inl, inr, false, true, ◌&&◌, List, ◌∷◌, ◌++◌, length, take, drop, Option, Some, nat_eq, refl, ap, sym, subst, ◌∙◌, arith}
use Rattle.std.proofs.lemmas.Option.{same_Some}
use Rattle.list_laws.proofs.Lists.{front_of, behind_mark}
use Rattle.list_laws.proofs.Options.{bind_some}
use Rattle.list_laws.specs.Options.{◌>>=◌}
use Rattle.rdf_terms.specs.Iri.{is_iri_byte}
use Rattle.nquads_text.specs.declared.scan.Awaits.{Awaits}
use Rattle.nquads_text.specs.declared.scan.Awaits.TheVariants.{Item, Escape, Digits}
use Rattle.nquads_text.specs.Scan.{is_item, opened, iri_step, iri_end}
use Rattle.nquads_text.specs.Raw.{iri_part}
use Rattle.nquads_text.specs.Grammar.{IsIriItem, ReadsIri}
use Rattle.nquads_text.proofs.Items.{Scans, Partial, Next, goes, plain_step, numeric_end, text_end, item_next, escape_next, digit_next, end_text, opened_some}

-- ---- from the grammar to the reader

iri_scans : Scans 62 iri_step iri_end
iri_scans = record { nothing = λ s i. refl; goes_on = λ s i b bs. refl; is_mark = refl; no_mark = refl; backslash = refl; four = refl; eight = refl; hex = λ more b. refl }

pub iri_goes : (s u : Awaits) (i b : ℕ) (bs : List ℕ) → (is_item s && nat_eq b 62) ≡ false → iri_step s b ≡ Some u → iri_end s i (b ∷ bs) ≡ iri_end u (i + 1) bs
iri_goes s u i b bs z e = goes iri_scans s u i b bs z e

pub iri_not : (b : ℕ) → is_iri_byte b ≡ true → (nat_eq b 62 ≡ false) × (nat_eq b 92 ≡ false)
iri_not b h = (grind (arith, h), grind (arith, h))

iri_item : (item : List ℕ) (i : ℕ) (rest : List ℕ) → IsIriItem item → iri_end Item i (item ++ rest) ≡ iri_end Item (i + length item) rest
iri_item item i rest (inl plain) =
    let p = iri_not plain.0 plain.2 in
    let at : iri_end Item i (plain.0 ∷ rest) ≡ iri_end Item (i + 1) rest = iri_goes Item Item i plain.0 rest p.0 (plain_step (nat_eq plain.0 92) (is_iri_byte plain.0) p.1 plain.2) in
    subst (λ (l : List ℕ). iri_end Item i (l ++ rest) ≡ iri_end Item (i + length l) rest) (sym plain.1) at
iri_item item i rest (inr numeric) = numeric_end iri_scans item i rest numeric

pub iri_part-at : (bytes text rest : List ℕ) → ReadsIri bytes text rest → iri_part bytes ≡ Some (text, rest)
unfolding iri_part
iri_part-at bytes text rest r =
    let end : iri_end Item 0 (text ++ 62 ∷ rest) ≡ Some (length text) = text_end iri_scans IsIriItem iri_item text rest r.0 in
    let at : iri_part (60 ∷ (text ++ 62 ∷ rest)) ≡ Some (text, rest) = rw (end, front_of text (62 ∷ rest), behind_mark text rest 62) refl in
    subst (λ (l : List ℕ). iri_part l ≡ Some (text, rest)) (sym r.1) at

-- ---- from the reader to the grammar

iri_next : (s u : Awaits) (b : ℕ) (front : List ℕ) → Partial s front → iri_step s b ≡ Some u → Next IsIriItem front b u
iri_next Item u b front p e = subst (λ (l : List ℕ). Next IsIriItem l b u) (sym p) (item_next IsIriItem (is_iri_byte b) (nat_eq b 92) b u (λ h. inl (b, refl, h)) refl e)
iri_next Escape u b front p e = subst (λ (l : List ℕ). Next IsIriItem l b u) (sym p) (escape_next IsIriItem (nat_eq b 117) (nat_eq b 85) b u refl refl e)
iri_next (Digits more) u b front p e = digit_next IsIriItem (λ item h. inr h) more b u front p e

pub iri_part-some : (bytes : List ℕ) (p : List ℕ × List ℕ) → iri_part bytes ≡ Some p → ReadsIri bytes p.0 p.1
unfolding iri_part
iri_part-some bytes p e =
    let a = bind_some (opened 60 bytes) (λ (inside : List ℕ). iri_end Item 0 inside >>= λ n. let r : Option (List ℕ × List ℕ) = Some (take n inside, drop (n + 1) inside) in r) p e in
    let b = bind_some (iri_end Item 0 a.0) (λ (n : ℕ). let r : Option (List ℕ × List ℕ) = Some (take n a.0, drop (n + 1) a.0) in r) p a.2 in
    let at : ◌≡◌ {A = List ℕ × List ℕ} (take b.0 a.0, drop (b.0 + 1) a.0) p = same_Some _ p b.2 in
    let f = end_text IsIriItem iri_scans iri_next a.0 b.0 b.1 in
    let whole : bytes ≡ 60 ∷ (take b.0 a.0 ++ 62 ∷ drop (b.0 + 1) a.0) = opened_some 60 bytes a.0 a.1 ∙ ap (λ (l : List ℕ). 60 ∷ l) f.1 in
    subst (λ (q : List ℕ × List ℕ). ReadsIri bytes q.0 q.1) at (f.0, whole)
