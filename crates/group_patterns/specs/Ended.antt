-- How the call of a query with groups ended: what it did on its wire, and what it wrote, said of the same calls for its blocks.
use Rattle.std.specs.Prelude.{ℕ, List, Result}
use Rattle.tpf_base.specs.Addresses.{Address}
use Rattle.tpf_base.specs.Links.{WireState}
use Rattle.tpf_base.specs.Wrote.{SinkState}
use Rattle.group_query.specs.Trees.{GroupData, group_tree, blocks_of}
use Rattle.tpf_client.specs.declared.options.Options.{Options}
use Rattle.tpf_client.specs.declared.options.Report.{Report}
use Rattle.tpf_client.specs.declared.fault.ClientFault.{ClientFault}
use Rattle.tpf_client.specs.Acts.{WithCause}
use Rattle.group_patterns.specs.Blocks.{AsksAll, AsksSome}
use Rattle.group_patterns.specs.Texts.{WritesGathered, WritesGatheredFront}
use Rattle.group_patterns.specs.Acts.{WithReport, ActsOnGroups}

-- A call that writes a text: the whole text of what is gathered from the rows of all blocks, or nothing, or a front of that text where no block is left. The blocks are those of `acts`, each with what happened in the call for it, one list of events.
pub record EndsGroups (allows : List ℕ → ℕ → List ℕ → List ℕ → Type 0) (options : Options) (start : Address) (g : GroupData) (result : Result Report ClientFault) (since now : WireState) (out out' : SinkState) : Type 0 where
  pub acts : ActsOnGroups allows options start g result since now out.faults out'.faults
  pub ok : WithReport result (λ report. AsksAll allows options start g.names (blocks_of (group_tree g)) report since now) acts.blocks (λ report asks. WritesGathered g asks.done report out.taken out'.taken)
  pub err : WithCause result (λ fault. AsksSome allows options start g.names (blocks_of (group_tree g)) fault since now) acts.stops (λ fault asks. WritesGatheredFront g asks.done asks.rest out.taken out'.taken)
