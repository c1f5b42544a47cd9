-- How what is appended piece by piece stands together.
use Rattle.std.proofs.Common.{◌≡◌, ℕ, List, [], ◌∷◌, ◌++◌, ap, sym, ◌∙◌, append_assoc, append-nil}

pub enclosed_stands : (old text : List ℕ) (opening closing : ℕ) → (((old ++ opening ∷ []) ++ text) ++ closing ∷ []) ++ 32 ∷ [] ≡ old ++ ((opening ∷ (text ++ closing ∷ [])) ++ 32 ∷ [])
enclosed_stands old text opening closing = simp append_assoc

pub line_stands : (old s p o : List ℕ)
    → (((old ++ (s ++ 32 ∷ [])) ++ (p ++ 32 ∷ [])) ++ (o ++ 32 ∷ [])) ++ 46 ∷ 10 ∷ [] ≡ old ++ (s ++ 32 ∷ (p ++ 32 ∷ (o ++ [] ++ 32 ∷ 46 ∷ 10 ∷ [])))
line_stands old s p o =
    append_assoc ((old ++ (s ++ 32 ∷ [])) ++ (p ++ 32 ∷ [])) (o ++ 32 ∷ []) (46 ∷ 10 ∷ [])
    ∙ ap (λ (l : List ℕ). ((old ++ (s ++ 32 ∷ [])) ++ (p ++ 32 ∷ [])) ++ l) (append_assoc o (32 ∷ []) (46 ∷ 10 ∷ []))
    ∙ append_assoc (old ++ (s ++ 32 ∷ [])) (p ++ 32 ∷ []) (o ++ 32 ∷ 46 ∷ 10 ∷ [])
    ∙ append_assoc old (s ++ 32 ∷ []) ((p ++ 32 ∷ []) ++ (o ++ 32 ∷ 46 ∷ 10 ∷ []))
    ∙ ap (λ (l : List ℕ). old ++ l) (append_assoc s (32 ∷ []) ((p ++ 32 ∷ []) ++ (o ++ 32 ∷ 46 ∷ 10 ∷ []))
    ∙ ap (λ (l : List ℕ). s ++ 32 ∷ l) (append_assoc p (32 ∷ []) (o ++ 32 ∷ 46 ∷ 10 ∷ [])
    ∙ ap (λ (l : List ℕ). p ++ 32 ∷ (l ++ 32 ∷ 46 ∷ 10 ∷ [])) (sym (append-nil o))))
