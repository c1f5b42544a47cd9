-- A slab key by key.
use Rattle.std.proofs.Common.{ℕ, zero, suc, ◌≡◌, ◌+◌, ◌<◌, ◌≤◌, inl, inr, List, [], ◌∷◌, length, Option, Some, None, refl, sym, ◌∙◌, ap, arith, get_or}
use Rattle.std.specs.Prelude.{cond, count_by, is_some, OnSome}
use Rattle.std.proofs.lemmas.List.Sums.{sum_by-set}
use Rattle.std.proofs.lemmas.List.{get_or-set_same, get_or-set_other, get_or_past}
use Rattle.std.proofs.lemmas.Bool.{cases_eq}
use Rattle.slab.specs.Slab.{Slab, get, slab_len, with_value, Updates}
use Rattle.serve_loop.specs.Traffic.{updated}
use Rattle.serve_loop.proofs.BelowLemmas.{below_or}
use Rattle.serve_loop.proofs.RelatesLemmas.{here, there, none_some}

abbrev one_or_none : {T : Type 0} → Option T → ℕ
one_or_none o = cond (is_some o) 1 0

module _ {T : Type 0} where
  -- past the slots there is nothing
  pub past_none : (s : Slab T) (n key : ℕ) → length s.slots ≤ n → n ≤ key → get s key ≡ None
  past_none s n key h k = get_or_past s.slots key None (omega (arith, h, k))

  within_slots : (s : Slab T) (key : ℕ) (x : T) → get s key ≡ Some x → key < length s.slots
  within_slots s key x e = elim (below_or key (length s.slots)) [
    | inl p ↦ p
    | inr q ↦ absurd (none_some x (sym (get_or_past s.slots key None q) ∙ e))
  ]

  -- a value written where one was
  pub written : (s : Slab T) (key : ℕ) (x y : T) → get s key ≡ Some x → (k : ℕ) → get (with_value s key y) k ≡ updated (get s) key (Some y) k
  written s key x y e k = elim (cases_eq k key) [
    | inl p ↦ ap (λ (n : ℕ). get (with_value s key y) n) p ∙ get_or-set_same s.slots key (Some y) None (within_slots s key x e) ∙ sym (here (get s) key (Some y) k p)
    | inr n ↦ get_or-set_other s.slots key k (Some y) None n ∙ sym (there (get s) key (Some y) k n)
  ]

  pub written_len : (s : Slab T) (key : ℕ) (x y : T) → get s key ≡ Some x → slab_len (with_value s key y) ≡ slab_len s
  written_len s key x y e =
      let counted = sum_by-set one_or_none s.slots key (Some y) None (within_slots s key x e) in
      let one : ◌≡◌ {A = ℕ} (one_or_none (get_or s.slots key None)) 1 = ap one_or_none e in
      omega (arith, counted, one)

  -- a value taken out after one was written
  pub taken_out : (s u : Slab T) (key : ℕ) (x y : T) → get s key ≡ Some x → Updates (with_value s key y) u key None → (k : ℕ) → get u k ≡ updated (get s) key None k
  taken_out s u key x y e h k = elim (cases_eq k key) [
    | inl p ↦ ap (get u) p ∙ h.changed ∙ sym (here (get s) key None k p)
    | inr n ↦ h.others k n ∙ written s key x y e k ∙ there (get s) key (Some y) k n ∙ sym (there (get s) key None k n)
  ]

  -- where a key has a value, there is one at least
  pub has_some : (s : Slab T) (key : ℕ) (x : T) → get s key ≡ Some x → 0 < slab_len s
  has_some s key x e =
      let counted = sum_by-set one_or_none s.slots key None None (within_slots s key x e) in
      let one : ◌≡◌ {A = ℕ} (one_or_none (get_or s.slots key None)) 1 = ap one_or_none e in
      omega (arith, counted, one)

  -- what is removed where a value was written
  pub fewer_by_one : (s u : Slab T) (key : ℕ) (x y : T) (result : Option T) → get s key ≡ Some x → result ≡ get (with_value s key y) key → OnSome result (slab_len u + 1 ≡ slab_len (with_value s key y))
      → slab_len u + 1 ≡ slab_len s
  fewer_by_one s u key x y None found e h = absurd (none_some y (e ∙ written s key x y found key ∙ here (get s) key (Some y) key refl))
  fewer_by_one s u key x y (Some z) found e h = h ∙ written_len s key x y found

  none_of : (slots : List (Option T)) → ((key : ℕ) → get_or slots key None ≡ None) → count_by is_some slots ≡ 0
  none_of [] none = refl
  none_of (None ∷ slots) none = omega (arith, none_of slots (λ key. none (suc key)))
  none_of (Some x ∷ slots) none = absurd (none_some x (sym (none zero)))

  -- where no key has a value, there are none
  pub none_held : (s : Slab T) → ((key : ℕ) → get s key ≡ None) → slab_len s ≡ 0
  none_held s none = none_of s.slots none
