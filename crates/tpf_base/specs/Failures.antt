-- Which calls an object in memory fails, and how many bytes the others move.
use Rattle.std.specs.Prelude.{ℕ, ◌≡◌, ◌-◌, Bool, true, false, min, ◌==◌, ◌&&◌, ◌||◌, ◌%◌, nat_lt, nat_le, Result, IsErrOf}
use Rattle.std.specs.List.{list_any, list_all}
use Rattle.tpf_base.specs.Causes.{counted}
use Rattle.tpf_base.specs.declared.fault.Fault.{Fault}
use Rattle.tpf_base.specs.declared.fault.Fault.TheVariants.{Failed}
use Rattle.tpf_base.specs.declared.failing.Failing.{Failing}
use Rattle.tpf_base.specs.declared.failing.Failing.TheVariants.{Never, Every, At, AfterBytes, Dials}

-- whether a call's number, counted from 1, is a multiple of n; none is one of 0
abbrev pub is_nth : ℕ → ℕ → Bool
is_nth n number = nat_lt 0 n && (number % n == 0)

-- whether the call with this number, counted from 1, is failed, where so many bytes have moved before
abbrev pub is_due : Failing → ℕ → ℕ → Bool
is_due Never call moved = false
is_due (Every n) call moved = is_nth n call
is_due (At calls) call moved = list_any (λ c. c == call) calls.items
is_due (AfterBytes most) call moved = nat_le most moved
is_due (Dials n) call moved = false

-- whether the dial with this number, where dials alone are counted from 1, is failed for that number
abbrev pub is_dial_due : Failing → ℕ → Bool
is_dial_due Never dial = false
is_dial_due (Every n) dial = false
is_dial_due (At calls) dial = false
is_dial_due (AfterBytes most) dial = false
is_dial_due (Dials n) dial = is_nth n dial

-- how many bytes a call that is not failed moves, where so many are there to move
abbrev pub room : Failing → ℕ → ℕ → ℕ
room Never moved there = there
room (Every n) moved there = there
room (At calls) moved there = there
room (AfterBytes most) moved there = min (most - moved) there
room (Dials n) moved there = there

-- whether it fails no call but dials, whatever their numbers and however many bytes move
abbrev pub spares_calls : Failing → Bool
spares_calls Never = true
spares_calls (Every n) = n == 0
spares_calls (At calls) = list_all (λ c. c == 0) calls.items
spares_calls (AfterBytes most) = false
spares_calls (Dials n) = true

-- What an object in memory counts: which calls it fails, how many were made, how many of these were dials, and how many failed.
pub record CallCounts : Type 0 where
  pub failing : Failing
  pub calls : ℕ
  pub dials : ℕ
  pub faults : ℕ

-- before the first call
abbrev pub no_calls : Failing → CallCounts
no_calls failing = record { failing = failing; calls = 0; dials = 0; faults = 0 }

-- whether the next call, which is no dial, is failed
abbrev pub is_next_due : CallCounts → ℕ → Bool
is_next_due counts moved = is_due counts.failing (counted counts.calls) moved

-- whether the next call, which is a dial, is failed: by its number among the calls or among the dials
abbrev pub is_next_dial_due : CallCounts → ℕ → Bool
is_next_dial_due counts moved = is_next_due counts moved || is_dial_due counts.failing (counted counts.dials)

-- A call that is no dial was counted, and counted as a fault exactly where it failed.
pub record CountsCall {T : Type 0} (old new : CallCounts) (result : Result T Fault) : Type 0 where
  pub failing : new.failing ≡ old.failing
  pub call : new.calls ≡ counted old.calls
  pub dials : new.dials ≡ old.dials
  pub fault : IsErrOf result Failed → new.faults ≡ counted old.faults
  pub no_fault : (IsErrOf result Failed → ⊥) → new.faults ≡ old.faults
