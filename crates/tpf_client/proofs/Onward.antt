-- What no step of a pool undoes: its wire's faults and dials do not fall, links are not forgotten, and its nature stays.
use Rattle.std.proofs.Common.{ℕ, ◌≡◌, ◌≤◌, ◌⊎◌, inl, inr, List, [], ◌∷◌, Option, Some, None, Result, Ok, Err, ◌∙◌, ap, arith}
use Rattle.tpf_base.specs.Addresses.{Address}
use Rattle.tpf_base.specs.Causes.{RoseBy, counted}
use Rattle.tpf_base.specs.Links.{WireState}
use Rattle.tpf_base.specs.declared.fault.Fault.{Fault}
use Rattle.tpf_base.specs.declared.fault.Fault.TheVariants as failures
use Rattle.tpf_base.specs.declared.wire.Ready.{Ready}
use Rattle.exchange.specs.Exchanges.{Exchanging, left_link}
use Rattle.exchange.specs.Polls.{Touches, LinkAfter}
use Rattle.request_pool.specs.declared.asks.Flight.{Flight}
use Rattle.request_pool.specs.declared.fault.Polled.{Polled}
use Rattle.request_pool.specs.declared.fault.Polled.TheVariants as polls
use Rattle.request_pool.specs.declared.fault.PoolFault.{PoolFault}
use Rattle.request_pool.specs.declared.fault.PoolFault.TheVariants as faults
use Rattle.request_pool.specs.declared.fault.Stepped.{Stepped}
use Rattle.request_pool.specs.declared.fault.Stepped.TheVariants.{Came, Waited, Idle}
use Rattle.request_pool.specs.Pools.{Pooled}
use Rattle.request_pool.specs.Polls.{Shuts, Settles, NoLink, Kept, Shut, FlightTo}
use Rattle.request_pool.specs.Runs.{Starts, Overruns, Flies, Starves, Turn, Start, Next, Round, Moment, Runs, Running, Last, OfStart, OfPoll}
use Rattle.request_pool.specs.Steps.{IsWait, WaitsTo, Passes, Stalls, Misses, Lacks, EndsInWait, EndsInRun, AtOnce, InRun, InWait, StepsTo}

pub record Onward (a b : WireState) : Type 0 where
  pub faults : a.faults ≤ b.faults
  pub given : a.given ≤ b.given
  pub dials : RoseBy 0 a.dials b.dials
  pub nature : b.nature ≡ a.nature

-- a count that stays, that is one more, and that does not fall twice
stays : (n m : ℕ) → m ≡ n → RoseBy 0 n m
stays n m e = omega (arith, e)

grows : (n m : ℕ) → m ≡ counted n → RoseBy 0 n m
grows n m e = omega (arith, e)

pub not_fallen : (n m k : ℕ) → RoseBy 0 n m → RoseBy 0 m k → RoseBy 0 n k
not_fallen n m k h i = omega (arith, h, i)

pub onward_same : (a b : WireState) → b ≡ a → Onward a b
onward_same a b e =
    let f = ap (λ (x : WireState). x.faults) e in
    let g = ap (λ (x : WireState). x.given) e in
    record { faults = omega arith; given = omega arith; dials = stays a.dials b.dials (ap (λ (x : WireState). x.dials) e); nature = ap (λ (x : WireState). x.nature) e }

pub onward_then : (a b c : WireState) → Onward a b → Onward b c → Onward a c
onward_then a b c h i = record {
  faults = omega (arith, h.faults, i.faults);
  given = omega (arith, h.given, i.given);
  dials = not_fallen a.dials b.dials c.dials h.dials i.dials;
  nature = i.nature ∙ h.nature;
}

link_given : (address : Address) (o p : Option ℕ) (a b : WireState) → LinkAfter address o p a b → a.given ≤ b.given
link_given address (Some j) (Some i) a b l = omega (arith, l.1)
link_given address (Some j) None a b l = absurd l
link_given address None None a b l = omega (arith, l.0)
link_given address None (Some i) a b l = omega (arith, l.1)

link_dials : (address : Address) (o p : Option ℕ) (a b : WireState) → LinkAfter address o p a b → RoseBy 0 a.dials b.dials
link_dials address (Some j) (Some i) a b l = stays a.dials b.dials l.2
link_dials address (Some j) None a b l = absurd l
link_dials address None None a b l = grows a.dials b.dials l.1
link_dials address None (Some i) a b l = grows a.dials b.dials l.2

onward_poll : (e f : Exchanging) (a b : WireState) → Touches e f a b → Onward a b
onward_poll e f a b t = record { faults = t.later; given = link_given e.address e.link f.link a b t.link; dials = link_dials e.address e.link f.link a b t.link; nature = t.nature }

pub onward_shuts : (o : Option ℕ) (a b : WireState) → Shuts o a b → Onward a b
onward_shuts None a b s = onward_same a b s
onward_shuts (Some k) a b s = let g = s.only.given in record { faults = s.only.later; given = omega arith; dials = stays a.dials b.dials s.only.dials; nature = s.only.nature }

onward_shut : (o : Option ℕ) (a b : WireState) → (b ≡ a) ⊎ Shuts o a b → Onward a b
onward_shut o a b (inl e) = onward_same a b e
onward_shut o a b (inr s) = onward_shuts o a b s

onward_settles : (o : Option ℕ) (address : Address) (p q : Pooled) (a b : WireState) → Settles o address p q a b → Onward a b
onward_settles o address p q a b (NoLink e f h) = onward_same a b h
onward_settles o address p q a b (Kept k e room f h) = onward_same a b h
onward_settles o address p q a b (Shut k e full f c) = onward_shuts (Some k) a b c

onward_flight : (result : Result Polled PoolFault) (f : Flight) (p q : Pooled) (a b : WireState) → FlightTo result f p q a b → Onward a b
onward_flight (Ok polls.Pending) f p q a b h = onward_poll f.exchange h.0.now a b h.0.touches
onward_flight (Ok (polls.Came ticket address answer)) f p q a b h = onward_then a h.0 b (onward_poll f.exchange h.1.now a h.0 h.1.touches) (onward_settles (left_link h.1.now) h.1.now.address p q h.0 b h.3)
onward_flight (Ok polls.Failed) f p q a b h = onward_poll f.exchange h.1.now a b h.1.touches
onward_flight (Err faults.Exchange) f p q a b h = onward_poll f.exchange h.0.now a b h.0.touches
onward_flight (Err (faults.Cut received)) f p q a b h = onward_poll f.exchange h.0.now a b h.0.touches
onward_flight (Err (faults.Reply fault received)) f p q a b h = onward_poll f.exchange h.0.now a b h.0.touches
onward_flight (Err faults.OutOfMemory) f p q a b h = onward_then a h.1 b (onward_poll f.exchange h.2.now a h.1 h.2.touches) (onward_shut h.2.now.link h.1 b h.4.1)
onward_flight (Err faults.Stalled) f p q a b h = absurd h
onward_flight (Err faults.Budget) f p q a b h = absurd h

onward_starts : (result : Result Polled PoolFault) (p q : Pooled) (a b : WireState) → Starts result p q a b → Onward a b
onward_starts result p q a b (Overruns e budget f h) = onward_same a b h
onward_starts result p q a b (Flies mid f budget begins to) = onward_flight result f mid q a b to
onward_starts result p q a b (Starves e mid f begins is shuts) = onward_shuts f.exchange.link a b shuts

onward_turn : (p q : Pooled) (a b : WireState) → Turn p q a b → Onward a b
onward_turn p q a b (Start result e s) = onward_starts result p q a b s
onward_turn p q a b (Next result e s) = onward_flight result s.f (record p { due = s.rest }) q a b s.to
onward_turn p q a b (Round e f) = onward_same a b f

onward_runs : (ms : List Moment) (p q : Pooled) (a b : WireState) → Runs ms p q a b → Onward a b
onward_runs [] p q a b h = onward_same a b h.1
onward_runs (m ∷ ms) p q a b h = onward_then a m.wire b (onward_turn p m.pool a m.wire h.0) (onward_runs ms m.pool q m.wire b h.1)

pub onward_running : (p q : Pooled) (a b : WireState) → Running p q a b → Onward a b
onward_running p q a b h = onward_runs h.moments p q a b h.runs

onward_last : (result : Result Polled PoolFault) (p q : Pooled) (a b : WireState) → Last result p q a b → Onward a b
onward_last result p q a b (OfStart h) = onward_starts result p q a b h
onward_last result p q a b (OfPoll h) = onward_flight result h.f (record p { due = h.rest }) q a b h.to

onward_ended : (result : Result Polled PoolFault) (p q : Pooled) (a b : WireState) → EndsInRun result p q a b → Onward a b
onward_ended result p q a b h = onward_then a h.between b (onward_running h.line h.mid a h.between h.running) (onward_last result h.mid q h.between b h.last)

onward_wait : (answer : Result Ready Fault) (a b : WireState) → IsWait answer a b → Onward a b
onward_wait answer a b h = let g = h.only.given in record { faults = h.only.later; given = omega arith; dials = stays a.dials b.dials h.only.dials; nature = h.only.nature }

onward_waits : (result : Result Stepped PoolFault) (p q : Pooled) (a b : WireState) → WaitsTo result p q a b → Onward a b
onward_waits result p q a b (Passes ready e w i f) = onward_wait (Ok ready) a b w
onward_waits result p q a b (Stalls ready mid w i g) = onward_then a mid b (onward_wait (Ok ready) a mid w) (onward_shuts g.f.exchange.link mid b g.shuts)
onward_waits result p q a b (Misses mid w g) = onward_then a mid b (onward_wait (Err failures.Failed) a mid w) (onward_shuts g.f.exchange.link mid b g.shuts)
onward_waits result p q a b (Lacks w e f) = onward_wait (Err failures.OutOfMemory) a b w

onward_in_wait : (result : Result Stepped PoolFault) (p q : Pooled) (a b : WireState) → EndsInWait result p q a b → Onward a b
onward_in_wait result p q a b h = onward_then a h.between b (onward_running h.line h.mid a h.between h.running) (onward_waits result h.mid q h.between b h.waits)

pub onward_step : (result : Result Stepped PoolFault) (p q : Pooled) (a b : WireState) → StepsTo result p q a b → Onward a b
onward_step (Ok Idle) p q a b h = onward_same a b h.2
onward_step (Ok (Came ticket address answer)) p q a b h = onward_ended (Ok (polls.Came ticket address answer)) p q a b h
onward_step (Ok Waited) p q a b h = onward_in_wait (Ok Waited) p q a b h
onward_step (Err fault) p q a b (AtOnce e f h) = onward_same a b h
onward_step (Err fault) p q a b (InRun h) = onward_ended (Err fault) p q a b h
onward_step (Err fault) p q a b (InWait h) = onward_in_wait (Err fault) p q a b h
