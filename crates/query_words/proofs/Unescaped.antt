-- The characters that stand for themselves, and the escapes.
use Rattle.std.proofs.Common.{ℕ, zero, suc, ◌≡◌, ◌+◌, ◌-◌, ◌<◌, ◌==◌, false, List, ◌∷◌, ◌++◌, length, take, drop, get_or, refl, sym, ap, subst, ◌∙◌, arith}
use Rattle.std.specs.Char.{encode_utf8}
use Rattle.std.specs.Str.{encode_utf8_all}
use Rattle.std.proofs.lemmas.List.{take_rest}
use Rattle.list_laws.proofs.Tests.{not_equal}
use Rattle.query_tokens.specs.Escapes.{escape_value, escape_length, resolved_after}
use Rattle.query_words.specs.Texts.{unescaped}
use Rattle.query_words.proofs.Steps.{from_place, char_more}

module _ (xs : List ℕ) (i x : ℕ) (below : i < length xs) (at : x ≡ get_or xs i x) where
  pub kept : (x ≡ 92 → ⊥) → unescaped (drop i xs) ≡ x ∷ unescaped (drop (i + 1) xs)
  kept h = ap unescaped (from_place xs i x below at) ∙ rw (not_equal x 92 h) refl

  pub left_out : x ≡ 92 → unescaped (drop i xs) ≡ unescaped (drop (i + 1) xs)
  left_out e = ap unescaped (from_place xs i x below at) ∙ ap (λ (y : ℕ). unescaped (y ∷ drop (i + 1) xs)) e

  pub passed : (skip : ℕ) → 0 < skip → resolved_after skip (drop i xs) ≡ resolved_after (skip - 1) (drop (i + 1) xs)
  passed zero h = absurd (omega (arith, h))
  passed (suc n) h = let on : suc n - 1 ≡ n = omega arith in ap (resolved_after (suc n)) (from_place xs i x below at) ∙ ap (λ (k : ℕ). resolved_after k (drop (i + 1) xs)) (sym on)

  pub plain : (x ≡ 92 → ⊥) → resolved_after 0 (drop i xs) ≡ x ∷ resolved_after 0 (drop (i + 1) xs)
  plain h = ap (resolved_after 0) (from_place xs i x below at) ∙ rw (not_equal x 92 h) refl

  pub escaped : x ≡ 92 → resolved_after 0 (drop i xs) ≡ escape_value (drop (i + 1) xs) ∷ resolved_after (escape_length (drop (i + 1) xs)) (drop (i + 1) xs)
  escaped e = ap (resolved_after 0) (from_place xs i x below at) ∙ ap (λ (y : ℕ). resolved_after 0 (y ∷ drop (i + 1) xs)) e

  module _ (skip left : ℕ) (before after whole : List ℕ) (so_far : before ++ encode_utf8_all (resolved_after skip (drop i xs)) ≡ whole) where
    pub skip_more : 0 < skip → left ≡ skip - 1 → after ≡ before → after ++ encode_utf8_all (resolved_after left (drop (i + 1) xs)) ≡ whole
    skip_more some fewer same =
        (λ k. same k ++ encode_utf8_all (resolved_after (fewer k) (drop (i + 1) xs))) ∙ ap (λ (l : List ℕ). before ++ encode_utf8_all l) (sym (passed skip some)) ∙ so_far

    at_none : skip ≡ 0 → before ++ encode_utf8_all (resolved_after 0 (drop i xs)) ≡ whole
    at_none none = subst (λ (n : ℕ). before ++ encode_utf8_all (resolved_after n (drop i xs)) ≡ whole) none so_far

    pub escape_more : (c : ℕ) → skip ≡ 0 → x ≡ 92 → c ≡ escape_value (take (length xs - (i + 1)) (drop (i + 1) xs)) → left ≡ escape_length (take (length xs - (i + 1)) (drop (i + 1) xs)) → after ≡ before ++ encode_utf8 c →
        after ++ encode_utf8_all (resolved_after left (drop (i + 1) xs)) ≡ whole
    escape_more c none e is long added =
        let behind = drop (i + 1) xs in
        ap (λ (n : ℕ). after ++ encode_utf8_all (resolved_after n behind)) (long ∙ ap escape_length (take_rest xs (i + 1)))
        ∙ char_more c (resolved_after 0 (drop i xs)) (resolved_after (escape_length behind) behind) before after whole
        (escaped e ∙ ap (λ (v : ℕ). v ∷ resolved_after (escape_length behind) behind) (sym (is ∙ ap escape_value (take_rest xs (i + 1))))) added (at_none none)

    pub plain_more : skip ≡ 0 → (x ≡ 92 → ⊥) → left ≡ skip → after ≡ before ++ encode_utf8 x → after ++ encode_utf8_all (resolved_after left (drop (i + 1) xs)) ≡ whole
    plain_more none h same added =
        ap (λ (n : ℕ). after ++ encode_utf8_all (resolved_after n (drop (i + 1) xs))) (same ∙ none)
        ∙ char_more x (resolved_after 0 (drop i xs)) (resolved_after 0 (drop (i + 1) xs)) before after whole (plain h) added (at_none none)
