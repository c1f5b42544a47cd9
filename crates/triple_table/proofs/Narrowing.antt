-- A search that halves what is left: what it knows, and how often it compares.
use Rattle.std.proofs.Common.{ℕ, ◌≡◌, ◌+◌, ◌-◌, ◌*◌, ◌/◌, ◌^◌, ◌<◌, ◌≤◌, List, zero, suc, length, get_or, arith}
use Rattle.std.proofs.Math.Nat.{pow-suc}

-- Elements below `low` are before what is sought and those from `high` on are behind it. From `start` on `now` steps were taken, and e more are enough.
pub record Narrowed {X : Type 0} (before behind : X → Type 0) (xs : List X) (low high start now : ℕ) : Type 0 where
  pub order : low ≤ high
  pub within : high ≤ length xs
  pub below : (k : ℕ) (d : X) → k < low → before (get_or xs k d)
  pub above : (k : ℕ) (d : X) → high ≤ k → k < length xs → behind (get_or xs k d)
  pub counted : start ≤ now
  pub enough : (digits : ℕ) → length xs < 2 ^ digits → (e : ℕ) × (now + e ≤ start + digits) × (high - low < 2 ^ e)

-- one step of a number of steps that is enough
one_less : (e size half : ℕ) → size < 2 ^ e → half * 2 + 1 ≤ size + 1 → 0 < size → (f : ℕ) × (f + 1 ≡ e) × (half < 2 ^ f)
one_less zero size half l m s = absurd (omega arith)
one_less (suc f) size half l m s = let p : 2 ^ suc f ≡ 2 ^ f * 2 = pow-suc 2 f in (f, omega arith, omega (arith, p, l, m))

spend : (size half n s : ℕ) (P : ℕ → Type 0) → half * 2 ≤ size → 0 < size → ((digits : ℕ) → P digits → (e : ℕ) × (n + e ≤ s + digits) × (size < 2 ^ e)) →
    (digits : ℕ) → P digits → (e : ℕ) × (n + 1 + e ≤ s + digits) × (half < 2 ^ e)
spend size half n s P h z had digits p =
    let e = had digits p in
    let f = one_less e.0 size half e.2 (omega (arith, h)) z in
    let a = e.1 in let b = f.1 in
    (f.0, omega (arith, a, b), f.2)

pub narrow_up : {X : Type 0} (before behind : X → Type 0) (xs : List X) (low high start n middle : ℕ) → Narrowed before behind xs low high start n → low < high → middle ≡ low + (high - low) / 2 →
    ((k : ℕ) (d : X) → k ≤ middle → before (get_or xs k d)) → Narrowed before behind xs (middle + 1) high start (n + 1)
narrow_up before behind xs low high start n middle h l m fits =
    let order = h.order in let within = h.within in let counted = h.counted in
    record {
      order = omega (arith, m, l);
      within = within;
      below = λ k d i. fits k d (omega arith);
      above = h.above;
      counted = omega (arith, counted);
      enough = spend (high - low) (high - (middle + 1)) n start (λ digits. length xs < 2 ^ digits) (omega (arith, m, l)) (omega (arith, l)) h.enough;
    }

pub narrow_down : {X : Type 0} (before behind : X → Type 0) (xs : List X) (low high start n middle : ℕ) → Narrowed before behind xs low high start n → low < high → middle ≡ low + (high - low) / 2 →
    ((k : ℕ) (d : X) → middle ≤ k → k < length xs → behind (get_or xs k d)) → Narrowed before behind xs low middle start (n + 1)
narrow_down before behind xs low high start n middle h l m fits =
    let order = h.order in let within = h.within in let counted = h.counted in
    record {
      order = omega (arith, m);
      within = omega (arith, m, l, within);
      below = h.below;
      above = fits;
      counted = omega (arith, counted);
      enough = spend (high - low) (middle - low) n start (λ digits. length xs < 2 ^ digits) (omega (arith, m, l)) (omega (arith, l)) h.enough;
    }
