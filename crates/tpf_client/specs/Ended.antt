-- How a call ended: what it did on its wire, and what it wrote or gave, said of the same events.
use Rattle.std.specs.Prelude.{ℕ, List, Option, None, Result, IfOk, IfErr}
use Rattle.tpf_base.specs.Addresses.{Address}
use Rattle.tpf_base.specs.Links.{WireState}
use Rattle.tpf_base.specs.Wrote.{SinkState}
use Rattle.bgp_core.specs.Queries.{QueryData}
use Rattle.bgp_core.specs.Solutions.{Places}
use Rattle.request_pool.specs.Pools.{Pooled}
use Rattle.tpf_client.specs.declared.options.Options.{Options}
use Rattle.tpf_client.specs.declared.options.Report.{Report}
use Rattle.tpf_client.specs.declared.fault.ClientFault.{ClientFault}
use Rattle.tpf_client.specs.Traffic.{PoolEvent}
use Rattle.tpf_client.specs.Sources.{Sources}
use Rattle.tpf_client.specs.Ends.{Ends}
use Rattle.tpf_client.specs.Calls.{AreThese, Returns, WritesAll, WritesSome}
use Rattle.tpf_client.specs.Shown.{ShowsGiven, WritesShown}
use Rattle.tpf_client.specs.WireActs.{ActsAt}
use Rattle.tpf_client.specs.Acts.{ActsOnWire}
use Rattle.tpf_client.specs.Choices.{FailsOverOne}

-- ---- whatever the other ends answer

-- A call that writes a text: the whole text of the rows that it gave, or a front of one, with the rows that it shows.
pub record WritesEnded (allows : List ℕ → ℕ → List ℕ → List ℕ → Type 0) (sources : Sources) (q : QueryData) (starts : List Address) (options : Options) (result : Result Report ClientFault) (since now : WireState) (out out' : SinkState) : Type 0 where
  pub acts : ActsAt allows options starts q result (λ report. report) since now
  pub ok : IfOk result (λ report. WritesAll (AreThese acts.happened.events acts.happened.pool) sources q starts report out.taken out'.taken)
  pub err : IfErr result (λ fault. WritesShown (AreThese acts.happened.events acts.happened.pool) sources q starts options.budget fault out out')

-- A call that gives rows in a list; `told` is the report of what it answers, and `rows` its rows.
pub record GivesEnded {A : Type 0} (allows : List ℕ → ℕ → List ℕ → List ℕ → Type 0) (sources : Sources) (q : QueryData) (starts : List Address) (options : Options) (result : Result A ClientFault) (told : A → Report) (rows : A → List Places) (since now : WireState) : Type 0 where
  pub acts : ActsAt allows options starts q result told since now
  pub ok : IfOk result (λ x. Returns (AreThese acts.happened.events acts.happened.pool) sources q starts (told x) (rows x))
  pub err : IfErr result (λ fault. WritesSome (AreThese acts.happened.events acts.happened.pool) sources q starts options.budget fault None None)

-- ---- over whoever may hold the data

-- A call that ended with a fault, and shows all rows that it gave; the sink's faults were counted before and after it. What is said of it over honest other ends is said of one choice of what they hold.
pub record FailsShown (ran : List PoolEvent → Pooled → Type 0) (started : ℕ) (allows : List ℕ → ℕ → List ℕ → List ℕ → Type 0) (ends : Ends) (options : Options) (sources : Sources) (q : QueryData) (starts : List Address) (fault : ClientFault) (since now : WireState) (before after : ℕ) (taken taken' : Option (List ℕ)) : Type 0 where
  pub fails : FailsOverOne ran started allows ends options sources q starts fault since now taken taken'
  pub shown : ShowsGiven ran sources q starts options.budget fault before after taken taken' fails.some

-- A call that writes a text, of which it is said what is offered to it.
pub record WritesOverEnds (allows : List ℕ → ℕ → List ℕ → List ℕ → Type 0) (ends : Ends) (sources : Sources) (q : QueryData) (starts : List Address) (options : Options) (most : ℕ) (result : Result Report ClientFault) (since now : WireState) (out out' : SinkState) : Type 0 where
  pub acts : ActsOnWire allows ends options starts most result (λ report. report) since now
  pub ok : IfOk result (λ report. WritesAll (AreThese acts.happened.events acts.happened.pool) sources q starts report out.taken out'.taken)
  pub err : IfErr result (λ fault. FailsShown (AreThese acts.happened.events acts.happened.pool) acts.happened.pool.started allows ends options sources q starts fault since now out.faults out'.faults out.taken out'.taken)

-- A call that gives rows in a list.
pub record GivesOverEnds {A : Type 0} (allows : List ℕ → ℕ → List ℕ → List ℕ → Type 0) (ends : Ends) (sources : Sources) (q : QueryData) (starts : List Address) (options : Options) (most : ℕ) (result : Result A ClientFault) (told : A → Report) (rows : A → List Places) (since now : WireState) : Type 0 where
  pub acts : ActsOnWire allows ends options starts most result told since now
  pub ok : IfOk result (λ x. Returns (AreThese acts.happened.events acts.happened.pool) sources q starts (told x) (rows x))
  pub err : IfErr result (λ fault. FailsOverOne (AreThese acts.happened.events acts.happened.pool) acts.happened.pool.started allows ends options sources q starts fault since now None None)
