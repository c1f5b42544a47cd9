-- No step changes the bounds of a pool.
use Rattle.std.proofs.Common.{ℕ, ◌≡◌, List, [], ◌∷◌, Option, Some, None, Result, Ok, Err, Bool, true, false, IsTrue, sym, ◌∙◌, ap, subst}
use Rattle.tpf_base.specs.Addresses.{Address}
use Rattle.tpf_base.specs.Links.{WireState}
use Rattle.exchange.specs.Exchanges.{left_link}
use Rattle.request_pool.specs.declared.asks.Flight.{Flight}
use Rattle.request_pool.specs.declared.fault.Polled.{Polled}
use Rattle.request_pool.specs.declared.fault.Polled.TheVariants as polls
use Rattle.request_pool.specs.declared.fault.PoolFault.{PoolFault}
use Rattle.request_pool.specs.declared.fault.PoolFault.TheVariants as faults
use Rattle.request_pool.specs.declared.fault.Stepped.{Stepped}
use Rattle.request_pool.specs.declared.fault.Stepped.TheVariants.{Came, Waited, Idle}
use Rattle.request_pool.specs.Pools.{Pooled, IsOverBudget, bounds_of}
use Rattle.request_pool.specs.Polls.{FailsTo, Settles, NoLink, Kept, Shut, FlightTo}
use Rattle.request_pool.specs.Runs.{Starts, Overruns, Flies, Starves, Turn, Start, Next, Round, Moment, Runs, Last, OfStart, OfPoll}
use Rattle.request_pool.specs.Steps.{WaitsTo, Passes, Stalls, Misses, Lacks, Lines, InLine, AsLeft, EndsInWait, EndsInRun, EndsInFault, AtOnce, InRun, InWait, StepsTo, EndsPool}
use Rattle.request_pool.specs.Owned.{SuitsWire}
use Rattle.request_pool.specs.Faults.{kept_of}

settles_bounds : (o : Option ℕ) (address : Address) (p q : Pooled) (a b : WireState) → Settles o address p q a b → bounds_of q ≡ bounds_of p
settles_bounds o address p q a b (NoLink e f h) = ap bounds_of f
settles_bounds o address p q a b (Kept k e room f h) = ap bounds_of f
settles_bounds o address p q a b (Shut k e full f c) = ap bounds_of f

pub flight_bounds : (result : Result Polled PoolFault) (f : Flight) (p q : Pooled) (a b : WireState) → FlightTo result f p q a b → bounds_of q ≡ bounds_of p
flight_bounds (Ok polls.Pending) f p q a b h = ap bounds_of h.1
flight_bounds (Ok (polls.Came ticket address answer)) f p q a b h = settles_bounds (left_link h.1.now) h.1.now.address p q h.0 b h.3
flight_bounds (Ok polls.Failed) f p q a b h = ap bounds_of h.4
flight_bounds (Err faults.Exchange) f p q a b h = ap bounds_of h.2
flight_bounds (Err (faults.Cut received)) f p q a b h = ap bounds_of h.2
flight_bounds (Err (faults.Reply fault received)) f p q a b h = ap bounds_of h.1
flight_bounds (Err faults.OutOfMemory) f p q a b h = ap bounds_of h.3
flight_bounds (Err faults.Stalled) f p q a b h = absurd h
flight_bounds (Err faults.Budget) f p q a b h = absurd h

pub starts_bounds : (result : Result Polled PoolFault) (p q : Pooled) (a b : WireState) → Starts result p q a b → bounds_of q ≡ bounds_of p
starts_bounds result p q a b (Overruns e budget f h) = ap bounds_of f
starts_bounds result p q a b (Flies mid f budget begins to) = flight_bounds result f mid q a b to ∙ ap bounds_of begins.is_new
starts_bounds result p q a b (Starves e mid f begins is shuts) = ap bounds_of is ∙ ap bounds_of begins.is_new

turn_bounds : (p q : Pooled) (a b : WireState) → Turn p q a b → bounds_of q ≡ bounds_of p
turn_bounds p q a b (Start result e s) = starts_bounds result p q a b s
turn_bounds p q a b (Next result e s) = flight_bounds result s.f (record p { due = s.rest }) q a b s.to
turn_bounds p q a b (Round e f) = ap bounds_of e

pub runs_bounds : (ms : List Moment) (p q : Pooled) (a b : WireState) → Runs ms p q a b → bounds_of q ≡ bounds_of p
runs_bounds [] p q a b h = ap bounds_of h.0
runs_bounds (m ∷ ms) p q a b h = runs_bounds ms m.pool q m.wire b h.1 ∙ turn_bounds p m.pool a m.wire h.0

last_bounds : (result : Result Polled PoolFault) (p q : Pooled) (a b : WireState) → Last result p q a b → bounds_of q ≡ bounds_of p
last_bounds result p q a b (OfStart h) = starts_bounds result p q a b h
last_bounds result p q a b (OfPoll h) = flight_bounds result h.f (record p { due = h.rest }) q a b h.to

pub lines_bounds : (p r : Pooled) → Lines p r → bounds_of r ≡ bounds_of p
lines_bounds p r (InLine e) = ap bounds_of e
lines_bounds p r (AsLeft e) = ap bounds_of e

ended_bounds : (result : Result Polled PoolFault) (p q : Pooled) (a b : WireState) → EndsInRun result p q a b → bounds_of q ≡ bounds_of p
ended_bounds result p q a b h = last_bounds result h.mid q h.between b h.last ∙ runs_bounds h.running.moments h.line h.mid a h.between h.running.runs ∙ lines_bounds p h.line h.lines

fails_bounds : {T : Type 0} (fault : PoolFault) (result : Result T PoolFault) (f : Flight) (p q : Pooled) → FailsTo fault result f p q → bounds_of q ≡ bounds_of p
fails_bounds fault (Ok done) f p q h = ap bounds_of h.1
fails_bounds fault (Err shown) f p q h = ap bounds_of h.0

waits_bounds : (result : Result Stepped PoolFault) (p q : Pooled) (a b : WireState) → WaitsTo result p q a b → bounds_of q ≡ bounds_of p
waits_bounds result p q a b (Passes ready e w i h) = ap bounds_of h
waits_bounds result p q a b (Stalls ready mid w i h) = fails_bounds faults.Stalled result h.f (record p { polled = h.rest; due = [] }) q h.to
waits_bounds result p q a b (Misses mid w h) = fails_bounds faults.Exchange result h.f (record p { polled = h.rest; due = [] }) q h.to
waits_bounds result p q a b (Lacks w e h) = ap bounds_of h

ends_bounds : (result : Result Stepped PoolFault) (p q : Pooled) (a b : WireState) → EndsInWait result p q a b → bounds_of q ≡ bounds_of p
ends_bounds result p q a b h = waits_bounds result h.mid q h.between b h.waits ∙ runs_bounds h.running.moments h.line h.mid a h.between h.running.runs ∙ lines_bounds p h.line h.lines

breaks_bounds : (fault : PoolFault) (p q : Pooled) (a b : WireState) → EndsInFault fault p q a b → bounds_of q ≡ bounds_of p
breaks_bounds fault p q a b (InRun h) = ended_bounds (Err fault) p q a b h
breaks_bounds fault p q a b (InWait h) = ends_bounds (Err fault) p q a b h
breaks_bounds fault p q a b (AtOnce e f h) = ap bounds_of f

pub step_bounds : (result : Result Stepped PoolFault) (p q : Pooled) (a b : WireState) → StepsTo result p q a b → bounds_of q ≡ bounds_of p
step_bounds (Ok (Came ticket address answer)) p q a b h = ended_bounds (Ok (polls.Came ticket address answer)) p q a b h
step_bounds (Ok Waited) p q a b h = ends_bounds (Ok Waited) p q a b h
step_bounds (Ok Idle) p q a b h = ap bounds_of h.1
step_bounds (Err fault) p q a b h = breaks_bounds fault p q a b h

pub step_fault : (result : Result Stepped PoolFault) (p q : Pooled) (a b : WireState) → p.fault ≡ None → StepsTo result p q a b → q.fault ≡ None
step_fault result p q a b e h = ap (λ (x : Pooled). x.fault) (step_bounds result p q a b h) ∙ e

-- ---- the fault that ends it

pub no_both : (o : Option PoolFault) (fault : PoolFault) → o ≡ None → o ≡ Some fault → ⊥
no_both o fault e f = let g : None ≡ Some fault = sym e ∙ f in cc

pub again_fault : (o : Option PoolFault) (shown kept fault : PoolFault) → shown ≡ kept → o ≡ Some kept → o ≡ Some fault → ◌≡◌ {A = Result Stepped PoolFault} (Err shown) (Err fault)
again_fault o shown kept fault e f h = let g : Some kept ≡ Some fault = sym f ∙ h in let same : kept ≡ fault = cc in ap (λ (x : PoolFault). Err x) (e ∙ same)

pub suits_fault : (p q : Pooled) (o : Option PoolFault) (a : WireState) → q ≡ record p { fault = o } → SuitsWire p a → SuitsWire q a
suits_fault p q o a e s = subst (λ (x : Pooled). SuitsWire x a) (sym e) (record { polled = s.polled; due = s.due; owned = s.owned })

no_fault_is : (p : Pooled) → p.fault ≡ None → record p { fault = None } ≡ p
no_fault_is p e = ap (λ (x : Option PoolFault). record p { fault = x }) (sym e)

pub end_steps : (fault : PoolFault) (p q r : Pooled) (a b : WireState) → p.fault ≡ None → StepsTo (Err fault) p q a b → r ≡ record q { fault = Some (kept_of fault) } → EndsPool fault p r a b
end_steps fault p q r a b e h i = record {
  steps = subst (λ (x : Pooled). StepsTo (Err fault) p x a b) (sym (ap (λ (x : Pooled). record x { fault = None }) i ∙ no_fault_is q (step_fault (Err fault) p q a b e h))) h;
  kept = ap (λ (x : Pooled). x.fault) i;
}

pub end_bounds : (result : Result Stepped PoolFault) (p q r : Pooled) (o : Option PoolFault) (a b : WireState) → StepsTo result p q a b → r ≡ record q { fault = o } → bounds_of (record r { fault = None }) ≡ bounds_of (record p { fault = None })
end_bounds result p q r o a b h i = ap (λ (x : Pooled). bounds_of (record x { fault = None })) i ∙ ap (λ (x : Pooled). record x { fault = None }) (step_bounds result p q a b h)

pub went_bounds : (result : Result Stepped PoolFault) (p q : Pooled) (a b : WireState) → StepsTo result p q a b → bounds_of (record q { fault = None }) ≡ bounds_of (record p { fault = None })
went_bounds result p q a b h = ap (λ (x : Pooled). record x { fault = None }) (step_bounds result p q a b h)

pub no_idle : (fault : PoolFault) → ◌≡◌ {A = Result Stepped PoolFault} (Err fault) (Ok Idle) → ⊥
no_idle fault e = cc

pub not_over : (b : Bool) (q : Pooled) → (IsOverBudget q → IsTrue b) → b ≡ false → IsOverBudget q → ⊥
not_over b q h e o = let t : false ≡ true = sym e ∙ h o in cc
