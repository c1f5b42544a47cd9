-- Over steady wires to servers no fault is provoked.
use Rattle.std.proofs.Common.{ℕ, ◌≡◌, ◌≤◌, ◌<◌, ◌+◌, ◌^◌, List, [], ◌∷◌, map, true, None, refl, ap, ◌∙◌, ⊎_elim, arith}
use Rattle.std.specs.Prelude.{Result, Ok, Err}
use Rattle.std.specs.List.{AllByRecursion}
use Rattle.tpf_base.specs.Addresses.{Address}
use Rattle.tpf_base.specs.Links.{All, Nature, WireState}
use Rattle.request_pool.specs.declared.fault.PoolFault.{PoolFault}
use Rattle.request_pool.specs.declared.fault.Stepped.{Stepped}
use Rattle.request_pool.specs.Faults.{kept_of}
use Rattle.request_pool.specs.Pools.{Pooled, Ask, held}
use Rattle.request_pool.specs.Steps.{StepsTo}
use Rattle.pool_laws.specs.Provoking.{WaitsReady, SparesWire, HasHung, StepSpares}
use Rattle.pool_laws.specs.Rising.{IsServedBySome}
use Rattle.tpf_client.specs.declared.options.Options.{Options}
use Rattle.tpf_client.specs.Traffic.{PoolEvent, IsLawful, without_fault}
use Rattle.tpf_client.specs.Turns.{asked_in}
use Rattle.tpf_client.specs.Calls.{RunsPool}
use Rattle.tpf_client.specs.Honest.{Laws}
use Rattle.tpf_client.specs.Requests.{TrafficLaws}
use Rattle.tpf_client.specs.Plans.{NoneOpen}
use Rattle.tpf_client.proofs.Answered.{none-hang}
use Rattle.tpf_client.proofs.Keeping.{IsKeptBy, Taken, not-some, by-events}
use Rattle.tpf_client.proofs.Known.{Knows, begun, begun-knows, begun-between, knows-put, knows-step, knows-fault}
use Rattle.tpf_client.proofs.Rises.{IsOwn, IsServedAt, all-served, tells-on, small-limit}

all-addresses : (P : Address → Type 0) (asks : List Ask) → AllByRecursion (λ ask. P ask.address) asks → AllByRecursion P (map (λ (ask : Ask). ask.address) asks)
all-addresses P [] a = tt
all-addresses P (ask ∷ asks) a = (a.0, all-addresses P asks a.1)

spares-then : (u v w : WireState) → v.nature ≡ u.nature → SparesWire u v → SparesWire v w → SparesWire u w
spares-then u v w e a b = record { provoked = b.provoked ∙ a.provoked; faults = λ every. b.faults (ap (λ (x : Nature). x.every) e ∙ every) ∙ a.faults every }

few-given : (given since started budget most : ℕ) → given ≤ since + started → started ≤ budget → budget ≡ most → since + most < 2 ^ 63 → given < 2 ^ 63
few-given given since started budget most g s e f = omega (arith, g, s, e, f)

module _ (laws : Laws) (traffic : TrafficLaws) (allows : List ℕ → ℕ → List ℕ → List ℕ → Type 0) (options : Options) (since : WireState) (lawful : IsLawful allows since) (starts : List Address)
    (all : since.nature.tells ≡ All) (served : IsServedAt allows starts) (limit : options.max_body < 2 ^ 64) (some : 0 < options.links) (steady : since.nature.steady ≡ true) (few : since.given + options.budget < 2 ^ 63) where
  -- what is known after so many asks, that something moves before the next wait, and that no fault was provoked
  record Spares (n : ℕ) (p : Pooled) (v : WireState) : Type 0 where
    knows : Knows starts since (options.retries + 1) n p v
    ready : p.fault ≡ None → WaitsReady p v
    spares : SparesWire since v

  not-hung : (n : ℕ) (p r q : Pooled) (v w : WireState) → Taken allows (begun options) (IsOwn starts) p r v w → Knows starts since (options.retries + 1) n q w → HasHung (map (λ (ask : Ask). ask.address) (held p)) p.limit w → ⊥
  not-hung n p r q v w at k h =
      none-hang laws allows w p.limit (map (λ (ask : Ask). ask.address) (held p)) (small-limit options limit p.limit (ap (λ (x : Pooled). x.limit) at.bounds))
      (tells-on allows options since starts all n q w k at.lawful)
      (all-addresses (IsServedBySome allows) (held p) (all-served laws traffic allows options since lawful starts all served limit p at.are)) h

  some-links : (n : ℕ) → n ≡ options.links → 0 < n
  some-links n e = omega (arith, e, some)

  step-spares : (n : ℕ) (result : Result Stepped PoolFault) (p r q : Pooled) (v w : WireState) → Taken allows (begun options) (IsOwn starts) p r v w → Spares n p v → Knows starts since (options.retries + 1) n q w → q.budget ≡ options.budget → StepsTo result p q v w
      → StepSpares result p q v w
  step-spares n result p r q v w at i after budget t =
      traffic.spare result p q v w at.given at.suits i.knows.answers (i.ready at.no_fault) (ap (λ (x : Nature). x.steady) i.knows.owns.gives.nature ∙ steady)
      (few-given w.given since.given q.started q.budget options.budget after.linked.few after.linked.within budget few) (some-links p.links (ap (λ (x : Pooled). x.links) at.bounds)) (λ e. absurd (at.some e)) t

  spares-on : (n : ℕ) (result : Result Stepped PoolFault) (p r q : Pooled) (v w : WireState) → Taken allows (begun options) (IsOwn starts) p r v w → Spares n p v → Knows starts since (options.retries + 1) n q w → StepSpares result p q v w → SparesWire since w
  spares-on n result p r q v w at i after s =
      spares-then since v w i.knows.owns.gives.nature i.spares
      (⊎_elim (λ (x : SparesWire v w). x) (λ (h : HasHung (map (λ (ask : Ask). ask.address) (held p)) p.limit w). absurd (not-hung n p r q v w at after h)) s.spares)

  spares-kept : IsKeptBy allows (begun options) (IsOwn starts) Spares
  spares-kept = record {
    puts = λ n ask p v own web i. record {
      knows = knows-put laws traffic starts since (options.retries + 1) (omega arith) n ask p v own web i.knows;
      ready = λ none. traffic.puts_ready ask.ticket ask.address p v (i.ready none);
      spares = i.spares;
    };
    steps = λ n answer p q v w at i t.
        let after = knows-step laws traffic starts since (options.retries + 1) (omega arith) n (Ok answer) p q v w at.given at.suits i.knows t in
        let s = step-spares n (Ok answer) p q q v w at i after (ap (λ (x : Pooled). x.budget) at.after) t in
        record { knows = after; ready = λ none. s.ready; spares = spares-on n (Ok answer) p q q v w at i after s };
    breaks = λ n fault p q v w at i t kept.
        let after = knows-step laws traffic starts since (options.retries + 1) (omega arith) n (Err fault) p (without_fault q) v w at.given at.suits i.knows t in
        let s = step-spares n (Err fault) p q (without_fault q) v w at i after (ap (λ (x : Pooled). x.budget) at.after) t in
        record {
          knows = knows-fault laws traffic starts since (options.retries + 1) (omega arith) n q w after;
          ready = λ none. absurd (not-some q.fault (kept_of fault) kept none);
          spares = spares-on n (Err fault) p q (without_fault q) v w at i after s;
        };
  }

  begun-spares : NoneOpen since → Spares 0 (begun options) since
  begun-spares none = record {
    knows = begun-knows laws traffic starts options allows since lawful;
    ready = λ e. traffic.empty_ready options.links options.retries options.budget options.max_body since none;
    spares = record { provoked = refl; faults = λ every. refl };
  }

  pub spares-so : (now : WireState) (events : List PoolEvent) (p : Pooled) → NoneOpen since → AllByRecursion (IsOwn starts) (asked_in events) → RunsPool allows options since now events p → SparesWire since now
  spares-so now events p none a r =
      let i = by-events allows (begun options) (IsOwn starts) Spares spares-kept events (begun options) p since r.between (begun-between laws traffic starts options allows since lawful (IsOwn starts)) a (begun-spares none) r.travels in
      record { provoked = r.closes.provoked ∙ i.spares.provoked; faults = λ every. r.closes.faults ∙ i.spares.faults every }
