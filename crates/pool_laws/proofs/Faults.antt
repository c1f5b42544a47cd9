-- The count of a wire's faults falls in no step.
use Rattle.std.proofs.Common.{ℕ, ◌≡◌, ◌+◌, ◌≤◌, ◌⊎◌, inl, inr, Option, Some, None, Result, Ok, Err, ap, arith}
use Rattle.tpf_base.specs.Addresses.{Address}
use Rattle.tpf_base.specs.Links.{WireState}
use Rattle.tpf_base.specs.Causes.{Rose, RoseBy}
use Rattle.exchange.specs.Exchanges.{left_link}
use Rattle.request_pool.specs.declared.asks.Flight.{Flight}
use Rattle.request_pool.specs.declared.fault.Polled.{Polled}
use Rattle.request_pool.specs.declared.fault.Polled.TheVariants as polls
use Rattle.request_pool.specs.declared.fault.PoolFault.{PoolFault}
use Rattle.request_pool.specs.declared.fault.PoolFault.TheVariants as faults
use Rattle.request_pool.specs.Pools.{Pooled}
use Rattle.request_pool.specs.Polls.{Shuts, Settles, NoLink, Kept, Shut, FlightTo}
use Rattle.request_pool.specs.Runs.{Starts, Overruns, Flies, Starves}
use Rattle.pool_laws.proofs.KeptBySteps.{IsKept}

-- ---- how often a count rose

pub once_more : (n before now later : ℕ) → RoseBy n before now → Rose now later → RoseBy (n + 1) before later
once_more n before now later h r = omega (arith, h, r)

pub rose_later : (n before now later : ℕ) → now ≤ later → RoseBy n before now → RoseBy n before later
rose_later n before now later l h = omega (arith, l, h)

-- ---- a fault is the one that is answered

pub same_fault : (fault other : PoolFault) → ◌≡◌ {A = Result Polled PoolFault} (Err fault) (Err other) → fault ≡ other
same_fault fault other e = cc

-- ---- the count of faults

same_faults : (a b : WireState) → b ≡ a → a.faults ≤ b.faults
same_faults a b e = omega (arith, ap (λ (w : WireState). w.faults) e)

pub shut_faults : (o : Option ℕ) (a b : WireState) → Shuts o a b → a.faults ≤ b.faults
shut_faults None a b s = same_faults a b s
shut_faults (Some i) a b c = omega (arith, c.faults)

settle_faults : (o : Option ℕ) (address : Address) (p q : Pooled) (a b : WireState) → Settles o address p q a b → a.faults ≤ b.faults
settle_faults o address p q a b (NoLink e f g) = same_faults a b g
settle_faults o address p q a b (Kept i e room f g) = same_faults a b g
settle_faults o address p q a b (Shut i e full f c) = omega (arith, c.faults)

shut_or : (o : Option ℕ) (a b : WireState) → (b ≡ a) ⊎ Shuts o a b → a.faults ≤ b.faults
shut_or o a b (inl e) = same_faults a b e
shut_or o a b (inr s) = shut_faults o a b s

pub flight_faults : (result : Result Polled PoolFault) (f : Flight) (p q : Pooled) (a b : WireState) → FlightTo result f p q a b → a.faults ≤ b.faults
flight_faults (Ok polls.Pending) f p q a b t = t.0.touches.later
flight_faults (Ok (polls.Came ticket address answer)) f p q a b t = omega (arith, t.1.touches.later, settle_faults (left_link t.1.now) t.1.now.address p q t.0 b t.3)
flight_faults (Ok polls.Failed) f p q a b t = t.1.touches.later
flight_faults (Err faults.Exchange) f p q a b t = t.0.touches.later
flight_faults (Err (faults.Cut received)) f p q a b t = t.0.touches.later
flight_faults (Err (faults.Reply fault received)) f p q a b t = t.0.touches.later
flight_faults (Err faults.OutOfMemory) f p q a b t = omega (arith, t.2.touches.later, shut_or t.2.now.link t.1 b t.4.1)
flight_faults (Err faults.Stalled) f p q a b t = absurd t
flight_faults (Err faults.Budget) f p q a b t = absurd t

starts_faults : (result : Result Polled PoolFault) (p q : Pooled) (a b : WireState) → Starts result p q a b → a.faults ≤ b.faults
starts_faults result p q a b (Overruns e budget f g) = same_faults a b g
starts_faults result p q a b (Flies mid f budget begins to) = flight_faults result f mid q a b to
starts_faults result p q a b (Starves e mid f begins is shuts) = shut_faults f.exchange.link a b shuts

pub faults_are_kept : (n : ℕ) → IsKept (λ p a. n ≤ a.faults)
faults_are_kept n = record {
  starts = λ result p q a b g s h t. omega (arith, h, starts_faults result p q a b t);
  polls = λ result p q a b g s h t. omega (arith, h, flight_faults result t.f (record p { due = t.rest }) q a b t.to);
  rounds = λ p a h. h;
  gathers = λ p a h. h;
  waits = λ answer p a b s h w. omega (arith, h, w.only.later);
  gives_up = λ fault result p q a b s h u. omega (arith, h, shut_faults u.f.exchange.link a b u.shuts);
}
