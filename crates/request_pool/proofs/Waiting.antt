-- How often a step waits.
use Rattle.std.proofs.Common.{ℕ, ◌≡◌, ◌⊎◌, inl, inr, List, [], ◌∷◌, Option, Some, None, Result, Ok, Err, ◌∙◌, ap}
use Rattle.tpf_base.specs.Causes.{counted}
use Rattle.tpf_base.specs.Addresses.{Address}
use Rattle.tpf_base.specs.Links.{WireState}
use Rattle.exchange.specs.Exchanges.{left_link}
use Rattle.request_pool.specs.declared.asks.Flight.{Flight}
use Rattle.request_pool.specs.declared.fault.Polled.{Polled}
use Rattle.request_pool.specs.declared.fault.Polled.TheVariants as polls
use Rattle.request_pool.specs.declared.fault.PoolFault.{PoolFault}
use Rattle.request_pool.specs.declared.fault.PoolFault.TheVariants as faults
use Rattle.request_pool.specs.declared.fault.Stepped.{Stepped}
use Rattle.request_pool.specs.declared.fault.Stepped.TheVariants.{Came, Waited, Idle}
use Rattle.request_pool.specs.Pools.{Pooled}
use Rattle.request_pool.specs.Polls.{Shuts, Settles, NoLink, Kept, Shut, FlightTo}
use Rattle.request_pool.specs.Runs.{Starts, Overruns, Flies, Starves, Turn, Start, Next, Round, Moment, Runs, Running, Last, OfStart, OfPoll}
use Rattle.request_pool.specs.Steps.{WaitsTo, Passes, Stalls, Misses, Lacks, EndsInWait, EndsInRun, EndsInFault, AtOnce, InRun, InWait, StepsTo, WaitsOnce}

shuts_waits : (o : Option ℕ) (a b : WireState) → Shuts o a b → b.waits ≡ a.waits
shuts_waits None a b s = ap (λ (x : WireState). x.waits) s
shuts_waits (Some k) a b s = s.only.waits

shut_waits : (o : Option ℕ) (a b : WireState) → (b ≡ a) ⊎ Shuts o a b → b.waits ≡ a.waits
shut_waits o a b (inl e) = ap (λ (x : WireState). x.waits) e
shut_waits o a b (inr s) = shuts_waits o a b s

settles_waits : (o : Option ℕ) (address : Address) (p q : Pooled) (a b : WireState) → Settles o address p q a b → b.waits ≡ a.waits
settles_waits o address p q a b (NoLink e f h) = ap (λ (x : WireState). x.waits) h
settles_waits o address p q a b (Kept k e room f h) = ap (λ (x : WireState). x.waits) h
settles_waits o address p q a b (Shut k e full f c) = c.only.waits

flight_waits : (result : Result Polled PoolFault) (f : Flight) (p q : Pooled) (a b : WireState) → FlightTo result f p q a b → b.waits ≡ a.waits
flight_waits (Ok polls.Pending) f p q a b h = h.0.touches.waits
flight_waits (Ok (polls.Came ticket address answer)) f p q a b h = settles_waits (left_link h.1.now) h.1.now.address p q h.0 b h.3 ∙ h.1.touches.waits
flight_waits (Ok polls.Failed) f p q a b h = h.1.touches.waits
flight_waits (Err faults.Exchange) f p q a b h = h.0.touches.waits
flight_waits (Err (faults.Cut received)) f p q a b h = h.0.touches.waits
flight_waits (Err (faults.Reply fault received)) f p q a b h = h.0.touches.waits
flight_waits (Err faults.OutOfMemory) f p q a b h = shut_waits h.2.now.link h.1 b h.4.1 ∙ h.2.touches.waits
flight_waits (Err faults.Stalled) f p q a b h = absurd h
flight_waits (Err faults.Budget) f p q a b h = absurd h

starts_waits : (result : Result Polled PoolFault) (p q : Pooled) (a b : WireState) → Starts result p q a b → b.waits ≡ a.waits
starts_waits result p q a b (Overruns e budget f h) = ap (λ (x : WireState). x.waits) h
starts_waits result p q a b (Flies mid f budget begins to) = flight_waits result f mid q a b to
starts_waits result p q a b (Starves e mid f begins is shuts) = shuts_waits f.exchange.link a b shuts

turn_waits : (p q : Pooled) (a b : WireState) → Turn p q a b → b.waits ≡ a.waits
turn_waits p q a b (Start result e s) = starts_waits result p q a b s
turn_waits p q a b (Next result e s) = flight_waits result s.f (record p { due = s.rest }) q a b s.to
turn_waits p q a b (Round e f) = ap (λ (x : WireState). x.waits) f

runs_wait : (ms : List Moment) (p q : Pooled) (a b : WireState) → Runs ms p q a b → b.waits ≡ a.waits
runs_wait [] p q a b h = ap (λ (x : WireState). x.waits) h.1
runs_wait (m ∷ ms) p q a b h = runs_wait ms m.pool q m.wire b h.1 ∙ turn_waits p m.pool a m.wire h.0

pub running_waits : (p q : Pooled) (a b : WireState) → Running p q a b → b.waits ≡ a.waits
running_waits p q a b h = runs_wait h.moments p q a b h.runs

last_waits : (result : Result Polled PoolFault) (p q : Pooled) (a b : WireState) → Last result p q a b → b.waits ≡ a.waits
last_waits result p q a b (OfStart h) = starts_waits result p q a b h
last_waits result p q a b (OfPoll h) = flight_waits result h.f (record p { due = h.rest }) q a b h.to

ended_waits : (result : Result Polled PoolFault) (p q : Pooled) (a b : WireState) → EndsInRun result p q a b → b.waits ≡ a.waits
ended_waits result p q a b h = last_waits result h.mid q h.between b h.last ∙ running_waits h.line h.mid a h.between h.running

waits_once : (result : Result Stepped PoolFault) (p q : Pooled) (a b : WireState) → WaitsTo result p q a b → b.waits ≡ counted a.waits
waits_once result p q a b (Passes ready e w i h) = w.only.count
waits_once result p q a b (Stalls ready mid w i h) = shuts_waits h.f.exchange.link mid b h.shuts ∙ w.only.count
waits_once result p q a b (Misses mid w h) = shuts_waits h.f.exchange.link mid b h.shuts ∙ w.only.count
waits_once result p q a b (Lacks w e h) = w.only.count

ends_waits : (result : Result Stepped PoolFault) (p q : Pooled) (a b : WireState) → EndsInWait result p q a b → b.waits ≡ counted a.waits
ends_waits result p q a b h = waits_once result h.mid q h.between b h.waits ∙ ap counted (running_waits h.line h.mid a h.between h.running)

breaks_waits : (fault : PoolFault) (p q : Pooled) (a b : WireState) → EndsInFault fault p q a b → (b.waits ≡ a.waits) ⊎ (b.waits ≡ counted a.waits)
breaks_waits fault p q a b (InRun h) = inl (ended_waits (Err fault) p q a b h)
breaks_waits fault p q a b (InWait h) = inr (ends_waits (Err fault) p q a b h)
breaks_waits fault p q a b (AtOnce e f h) = inl (ap (λ (x : WireState). x.waits) h)

pub step_waits : (result : Result Stepped PoolFault) (p q : Pooled) (a b : WireState) → StepsTo result p q a b → WaitsOnce result a b
step_waits (Ok (Came ticket address answer)) p q a b h = ended_waits (Ok (polls.Came ticket address answer)) p q a b h
step_waits (Ok Waited) p q a b h = ends_waits (Ok Waited) p q a b h
step_waits (Ok Idle) p q a b h = ap (λ (x : WireState). x.waits) h.2
step_waits (Err fault) p q a b h = breaks_waits fault p q a b h
