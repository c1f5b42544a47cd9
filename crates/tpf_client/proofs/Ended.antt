-- How a call ended, whose links are closed at last: all is said of one list of events.
use Rattle.std.proofs.Common.{ℕ, ◌≡◌, List, length, None}
use Rattle.std.specs.Prelude.{Result, IfOk, IfErr}
use Rattle.tpf_base.specs.Addresses.{Address}
use Rattle.tpf_base.specs.Links.{WireState}
use Rattle.tpf_base.specs.Wrote.{SinkState}
use Rattle.bgp_core.specs.Queries.{QueryData}
use Rattle.bgp_core.specs.Solutions.{Places}
use Rattle.request_pool.specs.Pools.{Pooled, empty_pool}
use Rattle.request_pool.specs.Owned.{held_on}
use Rattle.request_pool.specs.Closing.{ClosesSome}
use Rattle.tpf_client.specs.declared.options.Options.{Options}
use Rattle.tpf_client.specs.declared.options.Report.{Report}
use Rattle.tpf_client.specs.declared.fault.ClientFault.{ClientFault}
use Rattle.tpf_client.specs.Traffic.{PoolEvent, IsLawful}
use Rattle.tpf_client.specs.Sources.{Sources}
use Rattle.tpf_client.specs.Calls.{Ran, AreThese, Returns, WritesAll, WritesSome, most_over}
use Rattle.tpf_client.specs.Shown.{WritesShown}
use Rattle.tpf_client.specs.Ended.{WritesEnded, GivesEnded}
use Rattle.tpf_client.specs.Honest.{Laws}
use Rattle.tpf_client.specs.Requests.{TrafficLaws}
use Rattle.tpf_client.proofs.Shutting.{if-err-from, EndedOnce, ended-once, returns-once, all-once, some-once, shown-once}
use Rattle.tpf_client.proofs.Clauses.{acts-at}

module _ (laws : Laws) (traffic : TrafficLaws) (allows : List ℕ → ℕ → List ℕ → List ℕ → Type 0) (options : Options) (starts : List Address) (sources : Sources) (q : QueryData) (begun new : Pooled) (since between now : WireState) (lawful : IsLawful allows since)
    (is : begun ≡ empty_pool options.links options.retries options.budget options.max_body) (closes : ClosesSome (held_on new) (λ k. 0) between now) where
  abbrev most : ℕ
  most = most_over options q (length starts)

  abbrev From : List PoolEvent → Pooled → Type 0
  From events pool = Ran allows most begun new since between events pool

  -- ---- a text

  module _ (out out' : SinkState) where
    abbrev Text : (List PoolEvent → Pooled → Type 0) → Report → Type 0
    Text ran report = WritesAll ran sources q starts report out.taken out'.taken

    abbrev Front : (List PoolEvent → Pooled → Type 0) → ClientFault → Type 0
    Front ran fault = WritesShown ran sources q starts options.budget fault out out'

    text-once : (result : Result Report ClientFault) → IfOk result (Text From) → IfErr result (Front From) → EndedOnce allows options starts most begun new since between now is closes result Text Front
    text-once result ok err =
        ended-once allows options starts most begun new since between now is closes result Text Front ok err
        (λ report w. all-once allows options starts most begun new since between now is closes sources q report out.taken out'.taken w)
        (λ fault w. shown-once allows options starts most begun new since between now is closes sources q options.budget fault out out' w)

    pub writes-ended : (result : Result Report ClientFault) → IfOk result (Text From) → IfErr result (Front From) → WritesEnded allows sources q starts options result since now out out'
    writes-ended result ok err =
        let o = text-once result ok err in
        record {
          acts =
              acts-at laws traffic allows options since now lawful starts sources q o.happened result (λ report. report) (Text (AreThese o.happened.events o.happened.pool)) out.taken out'.taken
              o.ok (if-err-from result _ _ o.err (λ fault w. w.some)) (λ report w. (w.rows, w.returns)) o.few;
          ok = o.ok;
          err = o.err;
        }

  -- ---- rows in a list

  module _ {A : Type 0} (result : Result A ClientFault) (told : A → Report) (rows : A → List Places) where
    abbrev Rows : (List PoolEvent → Pooled → Type 0) → A → Type 0
    Rows ran x = Returns ran sources q starts (told x) (rows x)

    abbrev Fails : (List PoolEvent → Pooled → Type 0) → ClientFault → Type 0
    Fails ran fault = WritesSome ran sources q starts options.budget fault None None

    rows-once : IfOk result (Rows From) → IfErr result (Fails From) → EndedOnce allows options starts most begun new since between now is closes result Rows Fails
    rows-once ok err =
        ended-once allows options starts most begun new since between now is closes result Rows Fails ok err
        (λ x w. returns-once allows options starts most begun new since between now is closes sources q (told x) (rows x) w)
        (λ fault w. some-once allows options starts most begun new since between now is closes sources q options.budget fault None None w)

    pub gives-ended : IfOk result (Rows From) → IfErr result (Fails From) → GivesEnded allows sources q starts options result told rows since now
    gives-ended ok err =
        let o = rows-once ok err in
        record {
          acts =
              acts-at laws traffic allows options since now lawful starts sources q o.happened result told (Rows (AreThese o.happened.events o.happened.pool)) None None
              o.ok o.err (λ x w. (rows x, w)) o.few;
          ok = o.ok;
          err = o.err;
        }
