-- How often a wire fails on which nothing but dials is due.
use Rattle.std.proofs.Common.{ℕ, suc, ◌≡◌, ◌-◌, ◌*◌, ◌/◌, ◌%◌, ◌^◌, ◌<◌, ◌≤◌, ◌||◌, true, false, Some, Ok, Err, refl, ap, sym, subst, ◌∙◌, arith, div-add-mod', lt_of_mul-lt-mul_right, mul-le-mul_right}
use Rattle.std.proofs.lemmas.Bool.Decides.{nat_tests}
use Rattle.tpf_base.specs.Causes.{counted, DoesNotFail}
use Rattle.tpf_base.specs.Failures.{CallCounts, no_calls, is_nth, is_due, is_dial_due}
use Rattle.tpf_base.specs.declared.fault.Fault.TheVariants as fault
use Rattle.tpf_base.specs.declared.failing.Failing.{Failing}
use Rattle.tpf_base.specs.declared.failing.Failing.TheVariants.{Never, Every, At, AfterBytes, Dials}
use Rattle.loop_wire.specs.Looped.{is_steady, every_of, FewFaults, CountsDue}
use Rattle.loop_wire.proofs.Calls.{dial_due}

-- which dials are due is told of a steady wire alone
every_steady : (failing : Failing) (n : ℕ) → every_of failing ≡ Some n → is_steady failing ≡ false → ⊥
every_steady Never n e u = cc
every_steady (Every m) n e u = cc
every_steady (At calls) n e u = cc
every_steady (AfterBytes most) n e u = cc
every_steady (Dials m) n e u = cc

pub none_yet : (counts : CallCounts) (failing : Failing) → counts ≡ no_calls failing → CountsDue counts.failing counts.dials counts.faults 0
none_yet counts failing is = subst (λ (c : CallCounts). CountsDue c.failing c.dials c.faults 0) (sym is) (λ n e few. record { due = 0; failed = omega arith; within = omega arith; none = λ z. refl })

-- ---- calls that are no dials

pub due_same : (old new : CallCounts) (m provoked : ℕ) → new ≡ record old { calls = m } → CountsDue old.failing old.dials old.faults provoked → CountsDue new.failing new.dials new.faults provoked
due_same old new m provoked is h = subst (λ (c : CallCounts). CountsDue c.failing c.dials c.faults provoked) (sym is) h

-- a call that is due makes the wire unsteady
pub due_unsteady : (old mid new : CallCounts) (m provoked : ℕ) → mid ≡ record old { calls = m } → new ≡ record mid { faults = counted mid.faults } → is_steady old.failing ≡ false → CountsDue new.failing new.dials new.faults provoked
due_unsteady old mid new m provoked is fails unsteady = λ n e few.
    let same : new.failing ≡ old.failing = ap (λ (c : CallCounts). c.failing) fails ∙ ap (λ (c : CallCounts). c.failing) is in
    absurd (every_steady old.failing n (ap every_of (sym same) ∙ e) unsteady)

-- a fault that was provoked
pub due_provoked : (old mid new : CallCounts) (m provoked more : ℕ) → mid ≡ record old { calls = m } → new ≡ record mid { faults = counted mid.faults } → more ≡ counted provoked
    → CountsDue old.failing old.dials old.faults provoked → CountsDue new.failing new.dials new.faults more
due_provoked old mid new m provoked more is fails rose h = λ n e few.
    let failing : new.failing ≡ old.failing = ap (λ (c : CallCounts). c.failing) fails ∙ ap (λ (c : CallCounts). c.failing) is in
    let dials : new.dials ≡ old.dials = ap (λ (c : CallCounts). c.dials) fails ∙ ap (λ (c : CallCounts). c.dials) is in
    let faults : new.faults ≡ counted old.faults = ap (λ (c : CallCounts). c.faults) fails ∙ ap (λ (c : CallCounts). counted c.faults) is in
    let f : FewFaults n old.dials old.faults provoked = h n (ap every_of (sym failing) ∙ e) (omega (arith, few, dials)) in
    record {
      due = f.due;
      failed = omega (arith, f.failed, faults, rose);
      within = omega (arith, f.within, dials);
      none = f.none;
    }

-- ---- dials

next_multiple : (n due k : ℕ) → 0 < n → due * n < k → k % n ≡ 0 → suc due * n ≤ k
next_multiple n due k some below whole =
    let is : k / n * n ≡ k = omega (arith, div-add-mod' k n, whole) in
    let less : due < k / n = lt_of_mul-lt-mul_right n (subst (λ (x : ℕ). due * n < x) (sym is) below) in
    subst (λ (x : ℕ). suc due * n ≤ x) is (mul-le-mul_right n less)

nth_is : (n k : ℕ) → is_nth n k ≡ true → (0 < n) × (k % n ≡ 0)
nth_is n k h = (grind (arith, nat_tests), grind (arith, nat_tests))

more_due : (n dials dials' faults faults' provoked : ℕ) → is_nth n dials' ≡ true → dials' ≡ counted dials → faults' ≡ counted faults → dials' < 2 ^ 64 - 1 → FewFaults n dials faults provoked → FewFaults n dials' faults' provoked
more_due n dials dials' faults faults' provoked nth d f few h =
    let t = nth_is n dials' nth in
    let within = h.within in
    record {
      due = suc h.due;
      failed = omega (arith, h.failed, f);
      within = next_multiple n h.due dials' t.0 (omega (arith, within, d, few)) t.1;
      none = λ z. absurd (omega (arith, t.0, z));
    }

-- a dial that is due
pub due_dialled : (old mid new : CallCounts) (moved m k provoked : ℕ) → (is_due old.failing (counted old.calls) moved || is_dial_due old.failing (counted old.dials)) ≡ true → k ≡ counted old.dials
    → mid ≡ record old { calls = m; dials = k } → new ≡ record mid { faults = counted mid.faults } → CountsDue old.failing old.dials old.faults provoked → CountsDue new.failing new.dials new.faults provoked
due_dialled old mid new moved m k provoked due number is fails h = λ n e few.
    let failing : new.failing ≡ old.failing = ap (λ (c : CallCounts). c.failing) fails ∙ ap (λ (c : CallCounts). c.failing) is in
    let dials : new.dials ≡ counted old.dials = ap (λ (c : CallCounts). c.dials) fails ∙ ap (λ (c : CallCounts). c.dials) is ∙ number in
    let faults : new.faults ≡ counted old.faults = ap (λ (c : CallCounts). c.faults) fails ∙ ap (λ (c : CallCounts). counted c.faults) is in
    let every : every_of old.failing ≡ Some n = ap every_of (sym failing) ∙ e in
    let nth : is_nth n new.dials ≡ true = ap (is_nth n) dials ∙ dial_due old.failing (counted old.calls) (counted old.dials) moved n due every in
    more_due n old.dials new.dials old.faults new.faults provoked nth dials faults few (h n every (omega (arith, few, dials)))

-- one that is not
pub due_spared : (old mid : CallCounts) (m k provoked : ℕ) → k ≡ counted old.dials → mid ≡ record old { calls = m; dials = k } → CountsDue old.failing old.dials old.faults provoked → CountsDue mid.failing mid.dials mid.faults provoked
due_spared old mid m k provoked number is h = λ n e few.
    let failing : mid.failing ≡ old.failing = ap (λ (c : CallCounts). c.failing) is in
    let dials : mid.dials ≡ counted old.dials = ap (λ (c : CallCounts). c.dials) is ∙ number in
    let faults : mid.faults ≡ old.faults = ap (λ (c : CallCounts). c.faults) is in
    let f : FewFaults n old.dials old.faults provoked = h n (ap every_of (sym failing) ∙ e) (omega (arith, few, dials)) in
    record { due = f.due; failed = omega (arith, f.failed, faults); within = omega (arith, f.within, dials, few); none = f.none }

-- one to where no server stands, which is not due
pub due_stranger : (old mid new : CallCounts) (m k provoked more : ℕ) → k ≡ counted old.dials → mid ≡ record old { calls = m; dials = k } → new ≡ record mid { faults = counted mid.faults } → more ≡ counted provoked
    → CountsDue old.failing old.dials old.faults provoked → CountsDue new.failing new.dials new.faults more
due_stranger old mid new m k provoked more number is fails rose h = due_provoked mid mid new mid.calls provoked more refl fails rose (due_spared old mid m k provoked number is h)

-- a dial that failed was due
pub dial_was_due : (old mid new : CallCounts) (moved m e : ℕ) → (is_due old.failing (counted old.calls) moved || is_dial_due old.failing (counted old.dials)) ≡ true
    → mid ≡ record old { calls = m; dials = counted old.dials } → new ≡ record mid { faults = counted mid.faults } → every_of old.failing ≡ Some e → is_nth e new.dials ≡ false → ⊥
dial_was_due old mid new moved m e due is fails every free =
    let dials : new.dials ≡ counted old.dials = ap (λ (c : CallCounts). c.dials) fails ∙ ap (λ (c : CallCounts). c.dials) is in
    let nth : is_nth e (counted old.dials) ≡ true = dial_due old.failing (counted old.calls) (counted old.dials) moved e due every in
    let not_nth : is_nth e (counted old.dials) ≡ false = ap (is_nth e) (sym dials) ∙ free in
    cc

-- a call that succeeded, or wanted memory, did not fail
pub spared : {T : Type 0} (before now : ℕ) (x : T) → now ≡ before → DoesNotFail before now (Ok x)
spared before now x same = record { same = same; answer = λ f. absurd cc }

pub spared_memory : (before now : ℕ) → now ≡ before → DoesNotFail {T = ℕ} before now (Err fault.OutOfMemory)
spared_memory before now same = record { same = same; answer = λ f. absurd cc }
