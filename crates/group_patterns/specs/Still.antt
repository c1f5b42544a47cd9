-- Over wires whose other end at the start answers over one version of its data alone, such as a server that reads its data again before the call and not in it.
use Rattle.std.specs.Prelude.{ℕ, List, Result, IfErr}
use Rattle.tpf_base.specs.Addresses.{Address}
use Rattle.tpf_base.specs.Links.{WireState}
use Rattle.group_query.specs.Trees.{GroupData}
use Rattle.tpf_client.specs.declared.options.Options.{Options}
use Rattle.tpf_client.specs.declared.options.Report.{Report}
use Rattle.tpf_client.specs.declared.fault.ClientFault.{ClientFault}
use Rattle.tpf_client.specs.Plans.{RisesFew, ChoiceFits}
use Rattle.tpf_client.specs.Still.{OverStill, IsWant}
use Rattle.group_patterns.specs.Plans.{group_offer, versions_at}

-- A query with groups of a server that answers over one version: where what all its blocks ask for over this one fits, the wire's faults rose few times, and nothing else failed, it succeeds or memory is wanting.
abbrev pub GroupSucceedsStill : (List ℕ → ℕ → List ℕ → List ℕ → Type 0) → Options → GroupData → Address → WireState → WireState → Type 0 → Result Report ClientFault → Type 0
GroupSucceedsStill allows options g start since now Failed result =
    OverStill allows start since (λ p version. (rise : ℕ) → RisesFew options rise since now → ChoiceFits (group_offer p g start) options rise (versions_at g version)
    → (Failed → ⊥) → IfErr result IsWant)
