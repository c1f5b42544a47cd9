-- How many requests a query makes over a wire in one process on which each n-th dial fails.
use Rattle.std.proofs.Common.{ℕ, zero, suc, ◌≡◌, ◌⊎◌, inl, inr, ◌+◌, ◌-◌, ◌*◌, ◌/◌, ◌^◌, ◌<◌, ◌≤◌, refl, sym, subst, arith, mul-suc, mul_comm, mul-le-mul_left, le-div_iff_mul-le}
use Rattle.tpf_base.specs.Causes.{Rose, RoseBy}
use Rattle.loop_wire.specs.Looped.{FewFaults}
use Rattle.query_command.specs.Plans.{CountsRequests, FailsOften, PassesBudget}

-- so many faults of dials, among so many addresses
pub record FewFailed (n addresses faults : ℕ) : Type 0 where
  pub below : faults < 2 ^ 63
  pub none : n ≡ 0 → faults ≡ 0
  pub often : (n - 1) * faults ≤ addresses

pub few_failed : (n addresses faults dials provoked rises budget : ℕ) → FewFaults n dials faults provoked → provoked ≡ 0 → budget < 2 ^ 63 → dials ≤ 0 + budget
    → RoseBy rises 0 faults → dials ≤ 0 + (addresses + rises) → FewFailed n addresses faults
few_failed zero addresses faults dials provoked rises budget h none small within rose few =
    let due : h.due ≡ 0 = h.none refl in
    let zero_faults : faults ≡ 0 = omega (arith, h.failed, due, none) in
    record { below = omega (arith, zero_faults); none = λ e. zero_faults; often = omega (arith, zero_faults) }
few_failed (suc m) addresses faults dials provoked rises budget h none small within rose few =
    let split : h.due * suc m ≡ h.due * m + h.due = mul-suc h.due m in
    let below : h.due ≤ dials = omega (arith, h.within, split) in
    let failed : faults ≤ h.due = omega (arith, h.failed, none) in
    let rest : h.due * m ≤ addresses = omega (arith, h.within, split, below, failed, within, small, rose, few) in
    let times : m * faults ≤ m * h.due = mul-le-mul_left m failed in
    let one : suc m - 1 ≡ m = omega arith in
    record {
      below = omega (arith, failed, below, within, small);
      none = λ e. absurd (omega (arith, e));
      often = subst (λ (k : ℕ). k * faults ≤ addresses) (sym one) (omega (arith, times, mul_comm m h.due, rest));
    }

module _ (n retries addresses faults : ℕ) (h : FewFailed n addresses faults) where
  -- a rise of the faults is no more than they are
  rises_within : (rises : ℕ) → RoseBy rises 0 faults → rises ≤ faults
  rises_within rises rose = omega (arith, h.below, rose)

  -- the faults are no more than the quotient
  quotient : 2 ≤ n → faults ≤ addresses / (n - 1)
  quotient two =
      let some : 0 < n - 1 = omega (arith, two) in
      (le-div_iff_mul-le some).1 (omega (arith, h.often, mul_comm faults (n - 1)))

  pub counts_requests : (requests rises : ℕ) → addresses ≤ requests → RoseBy rises 0 faults → requests ≤ addresses + rises → ((Rose 0 faults → ⊥) → requests ≡ addresses) → requests ≤ (retries + 1) * addresses
      → CountsRequests n retries addresses requests
  counts_requests requests rises each rose few exact tries = record {
    each = each;
    exact = λ zero_n. exact (let none = h.none zero_n in λ r. absurd (omega (arith, none, r)));
    few = λ two. omega (arith, few, rises_within rises rose, quotient two);
    tries = tries;
  }

  pub fails_often : RoseBy (retries + 1) 0 faults → FailsOften n retries addresses
  fails_often rose =
      let most : retries + 1 ≤ faults = omega (arith, h.below, rose) in
      let times : (n - 1) * (retries + 1) ≤ (n - 1) * faults = mul-le-mul_left (n - 1) most in
      record {
        some = positive n (λ zero_n. let none = h.none zero_n in absurd (omega (arith, none, most)));
        often = omega (arith, times, h.often);
      }
    where
      positive : (k : ℕ) → (k ≡ 0 → ⊥) → 0 < k
      positive zero some = absurd (some refl)
      positive (suc k) some = omega arith

  pub passes_budget : (budget rises : ℕ) → RoseBy rises 0 faults → budget < addresses + rises → budget < (retries + 1) * addresses → PassesBudget n retries budget addresses
  passes_budget budget rises rose over tries = record {
    none = λ zero_n. let none = h.none zero_n in omega (arith, over, rises_within rises rose, none);
    some = λ two. omega (arith, over, rises_within rises rose, quotient two);
    tries = tries;
  }

-- ---- none of the causes

pub not_often : (n retries addresses : ℕ) → (n ≡ 0) ⊎ (addresses < (n - 1) * (retries + 1)) → FailsOften n retries addresses → ⊥
not_often n retries addresses (inl zero_n) h = let some = h.some in omega (arith, zero_n, some)
not_often n retries addresses (inr few) h = let often = h.often in omega (arith, few, often)

pub not_passed : (n retries budget addresses : ℕ) → (n ≡ 0) ⊎ (addresses < (n - 1) * (retries + 1)) → (n ≡ 0 → addresses ≤ budget) → (2 ≤ n → addresses + addresses / (n - 1) ≤ budget) → PassesBudget n retries budget addresses → ⊥
not_passed zero retries budget addresses calm none some h = let over = h.none refl in let fits = none refl in omega (arith, over, fits)
not_passed (suc zero) retries budget addresses (inl e) none some h = omega (arith, e)
not_passed (suc zero) retries budget addresses (inr few) none some h = omega (arith, few)
not_passed (suc (suc n)) retries budget addresses calm none some h = let over = h.some (omega arith) in let fits = some (omega arith) in omega (arith, over, fits)
