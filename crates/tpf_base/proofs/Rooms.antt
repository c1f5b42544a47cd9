-- A call that is not failed moves something, where something is there.
use Rattle.std.proofs.Common.{ℕ, ◌≡◌, ◌<◌, ◌==◌, false, true, List, [], ◌∷◌, refl, arith}
use Rattle.std.proofs.lemmas.Grind.{common_steps}
use Rattle.std.specs.List.{list_any, list_all}
use Rattle.tpf_base.specs.Causes.{counted}
use Rattle.tpf_base.specs.Failures.{is_due, room, spares_calls, CallCounts, is_next_due}
use Rattle.tpf_base.specs.declared.failing.Failing.{Failing}
use Rattle.tpf_base.specs.declared.failing.Failing.TheVariants.{Never, Every, At, AfterBytes, Dials}

pub room_some : (failing : Failing) (call moved there : ℕ) → is_due failing call moved ≡ false → 0 < there → 0 < room failing moved there
room_some Never call moved there h some = some
room_some (Every n) call moved there h some = some
room_some (At calls) call moved there h some = some
room_some (AfterBytes most) call moved there h some = grind (arith, common_steps)
room_some (Dials n) call moved there h some = some

-- a number of which each number of a list that holds it is 0
at_zeros : (calls : List ℕ) (call : ℕ) → list_all (λ c. c == 0) calls ≡ true → 0 < call → list_any (λ c. c == call) calls ≡ false
at_zeros [] call zeros some = refl
at_zeros (c ∷ cs) call zeros some = grind (arith, common_steps, at_zeros cs call)

-- where no call but dials is ever failed, none is due
pub spared : (failing : Failing) (call moved : ℕ) → spares_calls failing ≡ true → 0 < call → is_due failing call moved ≡ false
spared Never call moved spares some = refl
spared (Every n) call moved spares some = grind (arith, common_steps)
spared (At calls) call moved spares some = at_zeros calls.items call spares some
spared (AfterBytes most) call moved spares some = absurd cc
spared (Dials n) call moved spares some = refl

-- so the next one is not
pub spared_next : (counts : CallCounts) (moved : ℕ) → spares_calls counts.failing ≡ true → is_next_due counts moved ≡ false
spared_next counts moved spares = spared counts.failing (counted counts.calls) moved spares (omega arith)
