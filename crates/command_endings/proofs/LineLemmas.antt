-- The parts of a line.
use Rattle.std.proofs.Common.{◌≡◌, ◌∙◌, ◌+◌, ◌<◌, ◌≤◌, ℕ, List, [], ◌∷◌, ◌++◌, length, take, get_or, refl, sym, ap, append_assoc, append-nil, take_all}
use Rattle.std.specs.List.{flat_map}
use Rattle.std.specs.Borrow.{Bor}
use Rattle.std.proofs.lemmas.List.{take_more}

-- five parts, one behind another
pub five_parts : (a b c d e : List ℕ) → a ++ (b ++ (c ++ (d ++ e))) ≡ a ++ b ++ c ++ d ++ e
five_parts a b c d e = simp append_assoc refl

-- one part more behind those before it
joined_more : (xs : List (Bor (List ℕ))) (x : Bor (List ℕ)) → flat_map (λ (p : Bor (List ℕ)). p.now) (xs ++ x ∷ []) ≡ flat_map (λ (p : Bor (List ℕ)). p.now) xs ++ x.now
joined_more [] x = append-nil x.now
joined_more (y ∷ xs) x = ap (λ (l : List ℕ). y.now ++ l) (joined_more xs x) ∙ sym (append_assoc y.now (flat_map (λ (p : Bor (List ℕ)). p.now) xs) x.now)

module _ (parts : List (Bor (List ℕ))) (i : ℕ) where
  pub one_part : (d : Bor (List ℕ)) (text more : List ℕ) → i < length parts → text ≡ flat_map (λ (p : Bor (List ℕ)). p.now) (take i parts) → more ≡ text ++ (get_or parts i d).now → more ≡ flat_map (λ (p : Bor (List ℕ)). p.now) (take (i + 1) parts)
  one_part d text more within so_far e =
      e ∙ ap (λ (l : List ℕ). l ++ (get_or parts i d).now) so_far ∙ sym (ap (λ (ps : List (Bor (List ℕ))). flat_map (λ (p : Bor (List ℕ)). p.now) ps) (take_more parts i d within) ∙ joined_more (take i parts) (get_or parts i d))

  pub all_parts : (text : List ℕ) → length parts ≤ i → text ≡ flat_map (λ (p : Bor (List ℕ)). p.now) (take i parts) → text ≡ flat_map (λ (p : Bor (List ℕ)). p.now) parts
  all_parts text over so_far = so_far ∙ ap (λ (ps : List (Bor (List ℕ))). flat_map (λ (p : Bor (List ℕ)). p.now) ps) (take_all i parts over)
