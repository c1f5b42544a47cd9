-- Over lively wires to servers each failure of an ask is a rise of the wire's faults.
use Rattle.std.proofs.Common.{ℕ, ◌≡◌, ◌<◌, ◌+◌, ◌^◌, List, [], ◌∷◌, length, true, sym, ap, subst, ◌∙◌, arith}
use Rattle.std.specs.Prelude.{Result, Ok, Err}
use Rattle.std.specs.List.{AllByRecursion}
use Rattle.list_laws.proofs.Each.{all_so}
use Rattle.tpf_base.specs.Addresses.{Address}
use Rattle.tpf_base.specs.Links.{All, Nature, WireState}
use Rattle.tpf_base.specs.declared.wire.TheConstants.{MOST_IDLE}
use Rattle.request_plan.specs.Evaluations.{HasHome}
use Rattle.request_pool.specs.declared.fault.PoolFault.{PoolFault}
use Rattle.request_pool.specs.declared.fault.Stepped.{Stepped}
use Rattle.request_pool.specs.Pools.{Pooled, Ask, held}
use Rattle.request_pool.specs.Steps.{StepsTo}
use Rattle.pool_laws.specs.Answers.{TellsAll}
use Rattle.pool_laws.specs.Rising.{IsServedBySome, FailuresRose, StepRose, EndsByRises}
use Rattle.tpf_client.specs.declared.options.Options.{Options}
use Rattle.tpf_client.specs.Traffic.{PoolEvent, Broke, Travels, EndsWith, IsLawful, without_fault, StepBreaks}
use Rattle.tpf_client.specs.Turns.{asked_in}
use Rattle.tpf_client.specs.Calls.{RunsPool}
use Rattle.tpf_client.specs.Honest.{Laws}
use Rattle.tpf_client.specs.Requests.{TrafficLaws}
use Rattle.tpf_client.proofs.Answered.{failures-rise}
use Rattle.tpf_client.proofs.Homes.{asks-front}
use Rattle.tpf_client.proofs.Keeping.{IsKeptBy, Taken, taken, between-after, by-events}
use Rattle.tpf_client.proofs.Known.{Knows, begun, begun-knows, begun-between, knows-put, knows-step, knows-fault}
use Rattle.tpf_client.proofs.Endings.{ending}

-- the wire tells all at each moment, where it did at first
pub tells-on : (allows : List ℕ → ℕ → List ℕ → List ℕ → Type 0) (options : Options) (since : WireState) (starts : List Address) → since.nature.tells ≡ All → (n : ℕ) (p : Pooled) (w : WireState) → Knows starts since (options.retries + 1) n p w → IsLawful allows w → TellsAll allows w
tells-on allows options since starts all n p w k l = record { all = ap (λ (x : Nature). x.tells) k.owns.gives.nature ∙ all; told = l.told; received = l.received; owed = l.owed }

pub small-limit : (options : Options) → options.max_body < 2 ^ 64 → (n : ℕ) → n ≡ options.max_body → n < 2 ^ 64
small-limit options limit n e = omega (arith, e, limit)

-- an ask for the authority of a start
abbrev pub IsOwn : List Address → Ask → Type 0
IsOwn starts ask = HasHome starts ask.address

-- over a wire that tells all, some server answers at each address with the authority of a start
abbrev pub IsServedAt : (List ℕ → ℕ → List ℕ → List ℕ → Type 0) → List Address → Type 0
IsServedAt allows starts = (address : Address) → HasHome starts address → IsServedBySome allows address

module _ (laws : Laws) (traffic : TrafficLaws) (allows : List ℕ → ℕ → List ℕ → List ℕ → Type 0) (options : Options) (since : WireState) (lawful : IsLawful allows since) (starts : List Address)
    (all : since.nature.tells ≡ All) (served : IsServedAt allows starts) (limit : options.max_body < 2 ^ 64) where
  -- those that are held are served
  pub all-served : (p : Pooled) → AllByRecursion (IsOwn starts) (held p) → AllByRecursion (λ ask. IsServedBySome allows ask.address) (held p)
  all-served p a = all_so (IsOwn starts) (λ (ask : Ask). IsServedBySome allows ask.address) (λ ask own. served ask.address own) (held p) a

  -- what is known after so many asks, and that failures are rises
  pub record Rises (n : ℕ) (p : Pooled) (v : WireState) : Type 0 where
    pub knows : Knows starts since (options.retries + 1) n p v
    pub rose : FailuresRose since.faults n p v

  module _ (lively : since.nature.lively ≡ true) where
    few-idle : (n : ℕ) (p : Pooled) (w : WireState) → Knows starts since (options.retries + 1) n p w → IsLawful allows w → w.idle < MOST_IDLE
    few-idle n p w k l = l.lively (ap (λ (x : Nature). x.lively) k.owns.gives.nature ∙ lively)

    step-rose : (n : ℕ) (result : Result Stepped PoolFault) (p r q : Pooled) (v w : WireState) → Taken allows (begun options) (IsOwn starts) p r v w → Rises n p v → StepsTo result p q v w → StepRose result since.faults n p q w
    step-rose n result p r q v w at i t =
        let after = knows-step laws traffic starts since (options.retries + 1) (omega arith) n result p q v w at.given at.suits i.knows t in
        failures-rise laws allows w since.faults n result p q v at.given at.suits i.knows.answers (small-limit options limit p.limit (ap (λ (x : Pooled). x.limit) at.bounds)) (tells-on allows options since starts all n q w after at.lawful) (few-idle n q w after at.lawful) (all-served p at.are) i.rose t

    rises-kept : IsKeptBy allows (begun options) (IsOwn starts) Rises
    rises-kept = record {
      puts = λ n ask p v own web i. record { knows = knows-put laws traffic starts since (options.retries + 1) (omega arith) n ask p v own web i.knows; rose = traffic.puts_rose since.faults n ask.ticket ask.address p v i.rose };
      steps = λ n answer p q v w at i t. record {
        knows = knows-step laws traffic starts since (options.retries + 1) (omega arith) n (Ok answer) p q v w at.given at.suits i.knows t;
        rose = (step-rose n (Ok answer) p q q v w at i t).failures;
      };
      breaks = λ n fault p q v w at i t kept. record {
        knows = knows-fault laws traffic starts since (options.retries + 1) (omega arith) n q w (knows-step laws traffic starts since (options.retries + 1) (omega arith) n (Err fault) p (without_fault q) v w at.given at.suits i.knows t);
        rose = traffic.faults_rose since.faults n q w (step-rose n (Err fault) p q (without_fault q) v w at i t).failures;
      };
    }

    begun-rises : Rises 0 (begun options) since
    begun-rises = record {
      knows = begun-knows laws traffic starts options allows since lawful;
      rose = traffic.empty_rose since.faults options.links options.retries options.budget options.max_body since (omega arith);
    }

    -- at each moment
    pub rises-so : (events : List PoolEvent) (p : Pooled) (v : WireState) → AllByRecursion (IsOwn starts) (asked_in events) → Travels allows events (begun options) p since v → Rises (length (asked_in events)) p v
    rises-so events p v a t =
        by-events allows (begun options) (IsOwn starts) Rises rises-kept events (begun options) p since v (begun-between laws traffic starts options allows since lawful (IsOwn starts)) a begun-rises t

    -- ---- a fault at the end

    ends-as : (fault : PoolFault) (n m x y : ℕ) → n ≡ m → x ≡ y → EndsByRises fault (n + 1) since.faults x → EndsByRises fault (m + 1) since.faults y
    ends-as fault n m x y e f h = subst (λ (k : ℕ). EndsByRises fault (k + 1) since.faults y) e (subst (λ (z : ℕ). EndsByRises fault (n + 1) since.faults z) f h)

    pub ends-by-rises : (now : WireState) (fault : PoolFault) (events : List PoolEvent) (p : Pooled) → EndsWith (Broke fault) events → RunsPool allows options since now events p → AllByRecursion (IsOwn starts) (asked_in events)
        → EndsByRises fault (options.retries + 1) since.faults now.faults
    ends-by-rises now fault events p e r a =
        let x = ending laws traffic allows options since now lawful starts events (Broke fault) p e r a in
        let h : StepBreaks fault x.mid p x.between r.between = x.last.happens in
        let front = asks-front (IsOwn starts) x.before (Broke fault ∷ []) (subst (λ (l : List PoolEvent). AllByRecursion (IsOwn starts) (asked_in l)) x.is_last a) in
        let b = between-after allows (begun options) (IsOwn starts) x.before (begun options) x.mid since x.between front (begun-between laws traffic starts options allows since lawful (IsOwn starts)) x.first in
        let at = taken allows (begun options) (IsOwn starts) (Broke fault) x.mid p x.between r.between h.some h.had_none b x.last in
        let rose = step-rose (length (asked_in x.before)) (Err fault) x.mid p (without_fault p) x.between r.between at (rises-so x.before x.mid x.between front x.first) h.steps in
        ends-as fault x.mid.retries options.retries r.between.faults now.faults (ap (λ (y : Pooled). y.retries) at.bounds) (sym r.closes.faults) rose.fault
