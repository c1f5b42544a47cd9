-- The version of an address, start by start.
use Rattle.std.proofs.Common.{ℕ, zero, suc, ◌≡◌, ◌+◌, ◌<◌, ◌≤◌, Bool, true, false, if◌then◌else◌, List, [], ◌∷◌, length, drop, get_or, Option, None, refl, sym, ap, ◌∙◌, arith}
use Rattle.std.specs.Str.{bytes_eq}
use Rattle.std.proofs.lemmas.Slice.Eq.{bytes_eq-Decides}
use Rattle.std.proofs.lemmas.List.{drop_more}
use Rattle.tpf_base.specs.Addresses.{Address, authority_of}
use Rattle.tpf_client.specs.Told.{told_at, told_first}

-- the last start is not compared
last-so : (starts : List Address) (version : Option ℕ) (versions : List (Option ℕ)) (address : Address) → length starts ≤ 1 → told_at starts (version ∷ versions) address ≡ version
last-so [] version versions address h = refl
last-so (start ∷ []) version versions address h = refl
last-so (start ∷ next ∷ starts) version versions address h = absurd (let e : length (start ∷ next ∷ starts) ≡ suc (suc (length starts)) = refl in omega (arith, h, e))

by-test : (b : Bool) (x y z : Option ℕ) → b ≡ true → x ≡ (if b then y else z) → x ≡ y
by-test b x y z e h = h ∙ ap (λ (c : Bool). if c then y else z) e

by-other : (b : Bool) (x y z : Option ℕ) → b ≡ false → x ≡ (if b then y else z) → x ≡ z
by-other b x y z e h = h ∙ ap (λ (c : Bool). if c then y else z) e

pub first-so : (start : Address) (starts : List Address) (version : Option ℕ) (versions : List (Option ℕ)) (address : Address) → bytes_eq (authority_of start) (authority_of address) ≡ true → told_at (start ∷ starts) (version ∷ versions) address ≡ version
first-so start [] version versions address e = refl
first-so start (next ∷ starts) version versions address e = by-test (bytes_eq (authority_of start) (authority_of address)) (told_at (start ∷ next ∷ starts) (version ∷ versions) address) version (told_at (next ∷ starts) versions address) e refl

pub other-so : (start next : Address) (starts : List Address) (version : Option ℕ) (versions : List (Option ℕ)) (address : Address) → bytes_eq (authority_of start) (authority_of address) ≡ false → told_at (start ∷ next ∷ starts) (version ∷ versions) address ≡ told_at (next ∷ starts) versions address
other-so start next starts version versions address e = by-other (bytes_eq (authority_of start) (authority_of address)) (told_at (start ∷ next ∷ starts) (version ∷ versions) address) version (told_at (next ∷ starts) versions address) e refl

-- other texts
apart : (xs ys : List ℕ) → (xs ≡ ys → ⊥) → bytes_eq xs ys ≡ false
apart xs ys n = by (bytes_eq xs ys) refl
  where
    by : (b : Bool) → bytes_eq xs ys ≡ b → bytes_eq xs ys ≡ false
    by true e = absurd (n ((bytes_eq-Decides xs ys).0 e))
    by false e = e

module _ (starts : List Address) (versions : List (Option ℕ)) (address : Address) (i : ℕ) where
  -- there is none behind this place
  pub last-at : i < length versions → length starts ≤ i + 1 → told_at (drop i starts) (drop i versions) address ≡ get_or versions i None
  last-at lt few = ap (λ (l : List (Option ℕ)). told_at (drop i starts) l address) (drop_more versions i None lt) ∙ last-so (drop i starts) (get_or versions i None) (drop (i + 1) versions) address (few-left starts i few)
    where
      few-left : (l : List Address) (n : ℕ) → length l ≤ n + 1 → length (drop n l) ≤ 1
      few-left l zero h = h
      few-left [] (suc n) h = omega arith
      few-left (x ∷ l) (suc n) h = few-left l n (let e : length (x ∷ l) ≡ suc (length l) = refl in omega (arith, h, e))

  -- the start at the place has the authority
  pub found-at : (start : Address) → start ≡ get_or starts i start → i < length versions → i < length starts → authority_of start ≡ authority_of address → told_at (drop i starts) (drop i versions) address ≡ get_or versions i None
  found-at start is lt here same =
      let e : bytes_eq (authority_of start) (authority_of address) ≡ true = (bytes_eq-Decides (authority_of start) (authority_of address)).1 same in
      let behind : drop i starts ≡ start ∷ drop (i + 1) starts = drop_more starts i start here ∙ ap (λ (x : Address). x ∷ drop (i + 1) starts) (sym is) in
      ap (λ (l : List (Option ℕ)). told_at (drop i starts) l address) (drop_more versions i None lt)
      ∙ (ap (λ (l : List Address). told_at l (get_or versions i None ∷ drop (i + 1) versions) address) behind ∙ first-so start (drop (i + 1) starts) (get_or versions i None) (drop (i + 1) versions) address e)

  -- it has another
  pub passed-at : (start : Address) → start ≡ get_or starts i start → i < length versions → i + 1 < length starts → (authority_of start ≡ authority_of address → ⊥) → told_at (drop i starts) (drop i versions) address ≡ told_at (drop (i + 1) starts) (drop (i + 1) versions) address
  passed-at start is lt more differs =
      let here : i < length starts = omega (arith, more) in
      let next = get_or starts (i + 1) address in
      let rest = drop (i + 1 + 1) starts in
      let behind : drop (i + 1) starts ≡ next ∷ rest = drop_more starts (i + 1) address more in
      let first : drop i starts ≡ start ∷ drop (i + 1) starts = drop_more starts i start here ∙ ap (λ (x : Address). x ∷ drop (i + 1) starts) (sym is) in
      let whole : drop i starts ≡ start ∷ next ∷ rest = first ∙ ap (λ (l : List Address). start ∷ l) behind in
      ap (λ (l : List (Option ℕ)). told_at (drop i starts) l address) (drop_more versions i None lt)
      ∙ (ap (λ (l : List Address). told_at l (get_or versions i None ∷ drop (i + 1) versions) address) whole
      ∙ (other-so start next rest (get_or versions i None) (drop (i + 1) versions) address (apart (authority_of start) (authority_of address) differs) ∙ ap (λ (l : List Address). told_at l (drop (i + 1) versions) address) (sym behind)))

-- the version at the first place is the first
pub first-at : (versions : List (Option ℕ)) (version : Option ℕ) → 0 < length versions → version ≡ get_or versions 0 version → version ≡ told_first versions
first-at [] version some e = absurd (omega (arith, some))
first-at (x ∷ versions) version some e = e
