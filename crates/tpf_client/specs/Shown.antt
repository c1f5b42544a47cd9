-- What a call has shown of its rows where it ends with a fault.
use Rattle.std.specs.Prelude.{ℕ, ◌++◌, List, Option, false}
use Rattle.std.specs.Io.KnownBytes.{Appends}
use Rattle.tpf_base.specs.Addresses.{Address}
use Rattle.tpf_base.specs.Causes.{Rose}
use Rattle.tpf_base.specs.Links.{WireState}
use Rattle.tpf_base.specs.Wrote.{SinkState}
use Rattle.template_fill.specs.declared.form.Form.{Form}
use Rattle.bgp_core.specs.Queries.{QueryData}
use Rattle.bgp_core.specs.Solutions.{Places}
use Rattle.result_json.specs.Pieces.{front_text, rows_text}
use Rattle.request_pool.specs.Pools.{Pooled}
use Rattle.tpf_client.specs.declared.fault.ClientFault.{ClientFault}
use Rattle.tpf_client.specs.Traffic.{PoolEvent}
use Rattle.tpf_client.specs.Causes.{IsLocal, Versions}
use Rattle.tpf_client.specs.Sources.{Sources}
use Rattle.tpf_client.specs.Calls.{WritesLess, PartOf, WholeOf, WritesSome, Before, Behind, AtEnd}

-- Where the fault is neither the sink's nor want of memory, and the sink did not fail between these counts of its faults, it took what stands in front of the rows and all of these rows.
abbrev pub ShowsRows : ClientFault → ℕ → ℕ → QueryData → List Places → Option (List ℕ) → Option (List ℕ) → Type 0
ShowsRows fault before now q rows taken taken' = (IsLocal fault → ⊥) → (Rose before now → ⊥) → Appends taken taken' (front_text q ++ rows_text q false rows)

-- A call that ended with a fault shows all rows that it gave: none before the start pages were read, and all of them behind these. Where it had given its last row the fault is the sink's or want of memory.
abbrev pub ShowsGiven : (ran : List PoolEvent → Pooled → Type 0) (sources : Sources) (q : QueryData) (starts : List Address) (budget : ℕ) (fault : ClientFault) (before now : ℕ) (taken taken' : Option (List ℕ)) → WritesSome ran sources q starts budget fault taken taken' → Type 0
ShowsGiven ran sources q starts budget fault before now taken taken' (Before e) = Unit {0}
ShowsGiven ran sources q starts budget fault before now taken taken' (Behind e) = ShowsRows fault before now q e.rows taken taken'
ShowsGiven ran sources q starts budget fault before now taken taken' (AtEnd e) = IsLocal fault

-- A call that ended with a fault wrote a front of the text, and shows all rows that it gave.
pub record WritesShown (ran : List PoolEvent → Pooled → Type 0) (sources : Sources) (q : QueryData) (starts : List Address) (budget : ℕ) (fault : ClientFault) (out out' : SinkState) : Type 0 where
  pub some : WritesSome ran sources q starts budget fault out.taken out'.taken
  pub shown : ShowsGiven ran sources q starts budget fault out.faults out'.faults out.taken out'.taken some

-- the same behind the start pages
abbrev pub ShowsRest : (allows : List ℕ → ℕ → List ℕ → List ℕ → Type 0) (most : ℕ) (sources : Sources) (q : QueryData) (starts : List Address) (forms : List Form) (versions : Versions) (budget : ℕ) (fault : ClientFault) (old new : Pooled) (wire wire' : WireState) (before now : ℕ) (taken taken' : Option (List ℕ)) → WritesLess allows most sources q starts forms versions budget fault old new wire wire' taken taken' → Type 0
ShowsRest allows most sources q starts forms versions budget fault old new wire wire' before now taken taken' (PartOf events rows j text) = ShowsRows fault before now q rows taken taken'
ShowsRest allows most sources q starts forms versions budget fault old new wire wire' before now taken taken' (WholeOf events rows j e text) = IsLocal fault

-- A call that ended with a fault behind the start pages wrote less than the whole text, and shows all rows that it gave.
abbrev pub ShowsLess : (allows : List ℕ → ℕ → List ℕ → List ℕ → Type 0) (most : ℕ) (sources : Sources) (q : QueryData) (starts : List Address) (forms : List Form) (versions : Versions) (budget : ℕ) (fault : ClientFault) (old new : Pooled) (wire wire' : WireState) (out out' : SinkState) → Type 0
ShowsLess allows most sources q starts forms versions budget fault old new wire wire' out out' =
    (less : WritesLess allows most sources q starts forms versions budget fault old new wire wire' out.taken out'.taken)
    × ShowsRest allows most sources q starts forms versions budget fault old new wire wire' out.faults out'.faults out.taken out'.taken less
