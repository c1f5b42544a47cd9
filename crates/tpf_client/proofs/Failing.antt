-- Over any lively wire each failure of an ask is a rise of the wire's faults or the end of a link.
use Rattle.std.proofs.Common.{ℕ, zero, suc, ◌≡◌, ◌<◌, ◌+◌, ◌-◌, Bool, List, [], ◌∷◌, length, true, Option, refl, ap, subst, ◌∙◌, arith, if◌then◌else◌}
use Rattle.std.specs.Prelude.{Result, Ok, Err}
use Rattle.std.specs.List.{AllByRecursion}
use Rattle.tpf_base.specs.Addresses.{Address}
use Rattle.tpf_base.specs.Links.{Nature, WireState}
use Rattle.tpf_base.specs.declared.wire.TheConstants.{MOST_IDLE}
use Rattle.request_plan.specs.Evaluations.{HasHome}
use Rattle.bgp_core.specs.Queries.{QueryData}
use Rattle.request_pool.specs.declared.fault.PoolFault.{PoolFault}
use Rattle.request_pool.specs.declared.fault.PoolFault.TheVariants as pool
use Rattle.request_pool.specs.declared.fault.Stepped.{Stepped}
use Rattle.request_pool.specs.Pools.{Pooled, Ask}
use Rattle.request_pool.specs.Steps.{StepsTo}
use Rattle.pool_laws.specs.Failing.{is_ended, times_ended, ended_links, FailsBy, FailuresEnd, EndsByFailures, StepFails}
use Rattle.pool_laws.specs.Requested.{over_links}
use Rattle.tpf_client.specs.declared.options.Options.{Options}
use Rattle.tpf_client.specs.declared.fault.ClientFault.{ClientFault}
use Rattle.tpf_client.specs.declared.fault.ClientFault.TheVariants as faults
use Rattle.tpf_client.specs.Traffic.{PoolEvent, Broke, Travels, EndsWith, IsLawful, without_fault, StepBreaks}
use Rattle.tpf_client.specs.Causes.{Explains, Versions}
use Rattle.tpf_client.specs.Sources.{Sources}
use Rattle.tpf_client.specs.Turns.{AsksAt, asked_in}
use Rattle.tpf_client.specs.Calls.{WritesSome, RunsPool, Happened, AreThese}
use Rattle.tpf_client.specs.Honest.{Laws}
use Rattle.tpf_client.specs.Requests.{TrafficLaws}
use Rattle.tpf_client.specs.Failing.{IsFailedOften}
use Rattle.tpf_client.proofs.Caused.{some-caused}
use Rattle.tpf_client.proofs.Received.{IsToldAlike}
use Rattle.tpf_client.proofs.Homes.{asks-front}
use Rattle.tpf_client.proofs.Keeping.{IsKeptBy, Taken, taken, between-after, by-events}
use Rattle.tpf_client.proofs.Known.{Knows, begun, begun-knows, begun-between, knows-put, knows-step, knows-fault}
use Rattle.tpf_client.proofs.Endings.{ending}

-- ---- the same at the exit

over-same : (f g : ℕ → ℕ) → ((k : ℕ) → f k ≡ g k) → (first n : ℕ) → over_links f first n ≡ over_links g first n
over-same f g s first zero = refl
over-same f g s first (suc n) = let a = over-same f g s first n in let b = s (first + n) in omega (arith, a, b)

fails-same : (n m before x y e d : ℕ) → n ≡ m → y ≡ x → d ≡ e → FailsBy (n + 1) before x e → FailsBy (m + 1) before y d
fails-same n m before x y e d same rise ends h = record { rises = h.rises; rose = (let r = h.rose in omega (arith, r, rise)); enough = (let many = h.enough in omega (arith, many, same, ends)) }

ends-same : (fault : PoolFault) (n m : ℕ) (since v w : WireState) → n ≡ m → w.faults ≡ v.faults → ended_links since w ≡ ended_links since v → EndsByFailures fault (n + 1) since v → EndsByFailures fault (m + 1) since w
ends-same pool.Exchange n m since v w same rise ends h = fails-same n m since.faults v.faults w.faults (ended_links since v) (ended_links since w) same rise ends h
ends-same (pool.Cut received) n m since v w same rise ends h = fails-same n m since.faults v.faults w.faults (ended_links since v) (ended_links since w) same rise ends h
ends-same pool.Stalled n m since v w same rise ends h = h
ends-same (pool.Reply fault received) n m since v w same rise ends h = tt
ends-same pool.Budget n m since v w same rise ends h = tt
ends-same pool.OutOfMemory n m since v w same rise ends h = tt

module _ (laws : Laws) (traffic : TrafficLaws) (allows : List ℕ → ℕ → List ℕ → List ℕ → Type 0) (options : Options) (since : WireState) (lawful : IsLawful allows since) (starts : List Address) where
  abbrev IsAt : Ask → Type 0
  IsAt ask = HasHome starts ask.address

  -- what is known after so many asks, and how often each failed
  record Failing (n : ℕ) (p : Pooled) (v : WireState) : Type 0 where
    knows : Knows starts since (options.retries + 1) n p v
    failures : FailuresEnd since p v

  module _ (lively : since.nature.lively ≡ true) where
    few-idle : (n : ℕ) (p : Pooled) (w : WireState) → Knows starts since (options.retries + 1) n p w → IsLawful allows w → w.idle < MOST_IDLE
    few-idle n p w k l = l.lively (ap (λ (x : Nature). x.lively) k.owns.gives.nature ∙ lively)

    step-fails : (n : ℕ) (result : Result Stepped PoolFault) (p r q : Pooled) (v w : WireState) → Taken allows (begun options) IsAt p r v w → Failing n p v → StepsTo result p q v w → StepFails result since p q w
    step-fails n result p r q v w at i t =
        let after = knows-step laws traffic starts since (options.retries + 1) (omega arith) n result p q v w at.given at.suits i.knows t in
        traffic.steps_fail since result p q v w at.given at.suits (few-idle n q w after at.lawful) i.failures t

    failing-kept : IsKeptBy allows (begun options) IsAt Failing
    failing-kept = record {
      puts = λ n ask p v own web i. record { knows = knows-put laws traffic starts since (options.retries + 1) (omega arith) n ask p v own web i.knows; failures = traffic.puts_fail since ask.ticket ask.address p v i.failures };
      steps = λ n answer p q v w at i t. record {
        knows = knows-step laws traffic starts since (options.retries + 1) (omega arith) n (Ok answer) p q v w at.given at.suits i.knows t;
        failures = (step-fails n (Ok answer) p q q v w at i t).failures;
      };
      breaks = λ n fault p q v w at i t kept. record {
        knows = knows-fault laws traffic starts since (options.retries + 1) (omega arith) n q w (knows-step laws traffic starts since (options.retries + 1) (omega arith) n (Err fault) p (without_fault q) v w at.given at.suits i.knows t);
        failures = traffic.faults_fail since q w (step-fails n (Err fault) p q (without_fault q) v w at i t).failures;
      };
    }

    begun-failing : Failing 0 (begun options) since
    begun-failing = record { knows = begun-knows laws traffic starts options allows since lawful; failures = traffic.empty_fail options.links options.retries options.budget options.max_body since }

    failing-so : (events : List PoolEvent) (p : Pooled) (v : WireState) → AllByRecursion IsAt (asked_in events) → Travels allows events (begun options) p since v → Failing (length (asked_in events)) p v
    failing-so events p v a t = by-events allows (begun options) IsAt Failing failing-kept events (begun options) p since v (begun-between laws traffic starts options allows since lawful IsAt) a begun-failing t

    module _ (now : WireState) where
      all-ended : (v : WireState) → now.given ≡ v.given → ((k : ℕ) → IsToldAlike (v.links k) (now.links k)) → ended_links since now ≡ ended_links since v
      all-ended v given told =
          ap (λ (n : ℕ). over_links (λ k. times_ended (now.links k)) since.given (n - since.given)) given
          ∙ over-same (λ k. times_ended (now.links k)) (λ k. times_ended (v.links k)) (λ k. ap (λ (o : Option Bool). if is_ended o then 1 else 0) (told k).ended) since.given (v.given - since.given)

      ends-by-failures : (fault : PoolFault) (events : List PoolEvent) (p : Pooled) → EndsWith (Broke fault) events → RunsPool allows options since now events p → AsksAt starts events → EndsByFailures fault (options.retries + 1) since now
      ends-by-failures fault events p e r a =
          let x = ending laws traffic allows options since now lawful starts events (Broke fault) p e r a in
          let h : StepBreaks fault x.mid p x.between r.between = x.last.happens in
          let front = asks-front IsAt x.before (Broke fault ∷ []) (subst (λ (l : List PoolEvent). AsksAt starts l) x.is_last a) in
          let b = between-after allows (begun options) IsAt x.before (begun options) x.mid since x.between front (begun-between laws traffic starts options allows since lawful IsAt) x.first in
          let at = taken allows (begun options) IsAt (Broke fault) x.mid p x.between r.between h.some h.had_none b x.last in
          let s = step-fails (length (asked_in x.before)) (Err fault) x.mid p (without_fault p) x.between r.between at (failing-so x.before x.mid x.between front x.first) h.steps in
          ends-same fault x.mid.retries options.retries since r.between now (ap (λ (y : Pooled). y.retries) at.bounds) r.closes.faults (all-ended r.between r.closes.given x.told) s.fault

      failed-often : (fault : ClientFault) (versions : Versions) (events : List PoolEvent) (p : Pooled) → Explains versions options.budget fault events → RunsPool allows options since now events p → AsksAt starts events → IsFailedOften options since now fault
      failed-often faults.Exchange versions events p e r a = ends-by-failures pool.Exchange events p e r a
      failed-often faults.Stalled versions events p e r a = ends-by-failures pool.Stalled events p e r a
      failed-often (faults.Cut received) versions events p e r a = ends-by-failures (pool.Cut received) events p e r a
      failed-often (faults.Reply fault received) versions events p e r a = tt
      failed-often (faults.Page fault body) versions events p e r a = tt
      failed-often (faults.Changed first other) versions events p e r a = tt
      failed-often (faults.Budget n) versions events p e r a = tt
      failed-often faults.Sink versions events p e r a = tt
      failed-often faults.OutOfMemory versions events p e r a = tt

      pub fault-failed : (h : Happened allows options starts since now) (sources : Sources) (q : QueryData) (fault : ClientFault) (t u : Option (List ℕ)) → WritesSome (AreThese h.events h.pool) sources q starts options.budget fault t u → IsFailedOften options since now fault
      fault-failed h sources q fault t u w =
          let x = some-caused starts h.events h.pool sources q options.budget fault t u w in
          failed-often fault x.versions h.events h.pool x.explains h.runs h.asks
