-- Bytes that stand for themselves are passed over at once.
use Rattle.std.proofs.Common.{ℕ, zero, suc, ◌≡◌, ◌+◌, ◌<◌, ◌≤◌, Bool, true, List, [], ◌∷◌, length, drop, Option, slice_index, nat_eq, ap, ◌∙◌, arith}
use Rattle.rdf_terms.specs.Iri.{is_iri_byte}
use Rattle.nquads_text.specs.declared.scan.Awaits.TheVariants.{Item}
use Rattle.nquads_text.specs.Grammar.{is_form_byte}
use Rattle.nquads_text.specs.Runs.{PassesFrom}
use Rattle.nquads_text.specs.Scan.{iri_end, form_end}
use Rattle.nquads_text.proofs.Items.{plain_step}
use Rattle.nquads_text.proofs.Bodies.{iri_goes, iri_not}
use Rattle.nquads_text.proofs.Forms.{form_goes, form_not}

-- a reader that goes on by one at each byte that passes
module _ (passes : ℕ → Bool) (end : ℕ → List ℕ → Option ℕ) (goes : (i b : ℕ) (bs : List ℕ) → passes b ≡ true → end i (b ∷ bs) ≡ end (i + 1) bs) where
  passed : (i : ℕ) (d : List ℕ) (n : ℕ) → n ≤ length d → ((k : ℕ) → k < n → passes (slice_index d k) ≡ true) → end i d ≡ end (i + n) (drop n d)
  passed i d zero room h = let at : i ≡ i + 0 = omega arith in ap (λ (k : ℕ). end k d) at
  passed i [] (suc n) room h = absurd (omega (arith, room))
  passed i (b ∷ bs) (suc n) room h =
      let here : passes b ≡ true = h 0 (omega arith) in
      let place : (i + 1) + n ≡ i + suc n = omega arith in
      goes i b bs here
      ∙ passed (i + 1) bs n (omega (arith, room)) (λ k low. h (suc k) (omega (arith, low)))
      ∙ ap (λ (k : ℕ). end k (drop n bs)) place

  passed_from : (d : List ℕ) (n : ℕ) → PassesFrom passes d 0 n → end 0 d ≡ end n (drop n d)
  passed_from d n h =
      let place : 0 + n ≡ n = omega arith in
      passed 0 d n h.1 (λ k low. h.2 k (omega arith) low) ∙ ap (λ (k : ℕ). end k (drop n d)) place

iri_one : (i b : ℕ) (bs : List ℕ) → is_iri_byte b ≡ true → iri_end Item i (b ∷ bs) ≡ iri_end Item (i + 1) bs
iri_one i b bs here = let p = iri_not b here in iri_goes Item Item i b bs p.0 (plain_step (nat_eq b 92) (is_iri_byte b) p.1 here)

pub iri_from : (d : List ℕ) (n : ℕ) → PassesFrom is_iri_byte d 0 n → iri_end Item 0 d ≡ iri_end Item n (drop n d)
iri_from d n h = passed_from is_iri_byte (iri_end Item) iri_one d n h

form_one : (i b : ℕ) (bs : List ℕ) → is_form_byte b ≡ true → form_end Item i (b ∷ bs) ≡ form_end Item (i + 1) bs
form_one i b bs here = let p = form_not b here in form_goes Item Item i b bs p.0 (plain_step (nat_eq b 92) (is_form_byte b) p.1 here)

pub form_from : (d : List ℕ) (n : ℕ) → PassesFrom is_form_byte d 0 n → form_end Item 0 d ≡ form_end Item n (drop n d)
form_from d n h = passed_from is_form_byte (form_end Item) form_one d n h
