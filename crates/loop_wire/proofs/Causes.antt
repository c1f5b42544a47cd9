-- What a wait or a dial changes beside the links, and the cause of what it answers.
use Rattle.std.proofs.Common.{ℕ, ◌≡◌, ◌<◌, ◌≤◌, Bool, true, false, List, length, Ok, Err, refl, ap, ◌∙◌, arith}
use Rattle.list_laws.proofs.Tests.{same_least}
use Rattle.tpf_base.specs.Causes.{counted, HasCause}
use Rattle.tpf_base.specs.Failures.{CallCounts}
use Rattle.tpf_base.specs.Calls.{GivesNone, OnlyDials, OnlyWaits}
use Rattle.tpf_base.specs.declared.failing.Failing.{Failing}
use Rattle.tpf_base.specs.declared.fault.Fault.TheVariants as fault
use Rattle.loop_wire.specs.Held.{Held, Owing}
use Rattle.loop_wire.specs.Waits.{WaitCounts}
use Rattle.loop_wire.specs.Looped.{wire_of, nature_in, steady_in, is_steady}
use Rattle.loop_wire.proofs.Calls.{CountsOn}

-- ---- counts

pub least_behind : (l m n : ℕ) → m ≡ l → m ≤ n → l ≤ n
least_behind l m n same least = omega (arith, same, least)

-- a call that failed, due or not
pub counts_on : (old mid new : CallCounts) (m : ℕ) → mid ≡ record old { calls = m } → new ≡ record mid { faults = counted mid.faults } → mid.faults ≤ new.faults → CountsOn old new
counts_on old mid new m is fails later = record {
  failing = ap (λ (c : CallCounts). c.failing) fails ∙ ap (λ (c : CallCounts). c.failing) is;
  dials = ap (λ (c : CallCounts). c.dials) fails ∙ ap (λ (c : CallCounts). c.dials) is;
  later = least_behind old.faults mid.faults new.faults (ap (λ (c : CallCounts). c.faults) is) later;
}

-- a wire that fails a call that is no dial is not steady
pub not_steady : (everywhere : Bool) (failing : Failing) → is_steady failing ≡ false → steady_in everywhere failing ≡ true → ⊥
not_steady true failing is so = cc
not_steady false failing is so = cc

-- ---- causes

pub failed_cause : {T : Type 0} (before mid now : ℕ) → mid ≡ before → now ≡ counted mid → mid ≤ now → HasCause {T = T} before now (Err fault.Failed)
failed_cause before mid now same is later = record { later = omega (arith, same, later); success = tt; failed = λ e. omega (arith, same, is); memory = λ e. absurd cc }

pub memory_cause : {T : Type 0} (before now : ℕ) → now ≡ before → HasCause {T = T} before now (Err fault.OutOfMemory)
memory_cause before now same = record { later = omega (arith, same); success = tt; failed = λ e. absurd cc; memory = λ e. same }

pub fine_cause : {T : Type 0} (before now : ℕ) (x : T) → now ≡ before → HasCause before now (Ok x)
fine_cause before now x same = record { later = omega (arith, same); success = same; failed = λ e. absurd cc; memory = λ e. same }

-- ---- what is told of the wire

module _ (everywhere : Bool) (owes : Owing) (links links' : List Held) (counts counts' : CallCounts) (provoked provoked' : ℕ) where
  -- no link is another
  pub none_given : (waits waits' : WaitCounts) (woke : Bool) → links' ≡ links → GivesNone (wire_of everywhere owes links counts provoked waits woke) (wire_of everywhere owes links' counts' provoked' waits' woke)
  none_given waits waits' woke same = rw (same) (record { given = refl; links = λ k. refl; idle = refl })

  pub only_waits : (waits waits' : WaitCounts) (woke woke' : Bool) → waits'.calls ≡ counted waits.calls → length links' ≡ length links → CountsOn counts counts' → provoked ≤ provoked' → waits.faults ≤ waits'.faults
      → OnlyWaits (wire_of everywhere owes links counts provoked waits woke) (wire_of everywhere owes links' counts' provoked' waits' woke')
  only_waits waits waits' woke woke' count given on rose later = record {
    count = count;
    given = given;
    later = on.later;
    provoked = rose;
    dials = on.dials;
    door = record { place = refl; stalls = refl; later = later; calls = refl };
    nature = ap (nature_in everywhere) on.failing;
  }

  -- a dial that failed, and one that did not
  pub only_failed : (mid : CallCounts) (m : ℕ) (waits : WaitCounts) (woke woke' : Bool) → mid ≡ record counts { calls = m; dials = counted counts.dials } → counts' ≡ record mid { faults = counted mid.faults } → mid.faults ≤ counts'.faults → provoked ≤ provoked'
      → OnlyDials (wire_of everywhere owes links counts provoked waits woke) (wire_of everywhere owes links' counts' provoked' waits woke')
  only_failed mid m waits woke woke' is fails later rose = record {
    count = ap (λ (c : CallCounts). c.dials) fails ∙ ap (λ (c : CallCounts). c.dials) is;
    later = least_behind counts.faults mid.faults counts'.faults (ap (λ (c : CallCounts). c.faults) is) later;
    provoked = rose;
    waits = refl;
    door = refl;
    nature = ap (nature_in everywhere) (ap (λ (c : CallCounts). c.failing) fails ∙ ap (λ (c : CallCounts). c.failing) is);
  }

  pub only_dialled : (m : ℕ) (waits : WaitCounts) (woke woke' : Bool) → counts' ≡ record counts { calls = m; dials = counted counts.dials } → provoked ≤ provoked'
      → OnlyDials (wire_of everywhere owes links counts provoked waits woke) (wire_of everywhere owes links' counts' provoked' waits woke')
  only_dialled m waits woke woke' is rose = record {
    count = ap (λ (c : CallCounts). c.dials) is;
    later = same_least counts.faults counts'.faults (ap (λ (c : CallCounts). c.faults) is);
    provoked = rose;
    waits = refl;
    door = refl;
    nature = ap (nature_in everywhere) (ap (λ (c : CallCounts). c.failing) is);
  }
