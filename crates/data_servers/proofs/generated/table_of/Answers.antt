use Rattle.std.proofs.Common.{◌∙◌, List, ℕ, IfOk, ap, subst}
use Rattle.tpf_base.specs.Addresses.{Address, authority_of}
use Rattle.triple_table.specs.declared.choice.Choice.TheVariants.{DefaultGraph}
use Rattle.triple_table.specs.Chosen.{chosen}
use Rattle.triple_table.specs.Served.{IsServed}
use Rattle.triple_table.specs.Stored.{triples_in}
use Rattle.generated_data.specs.Generated.{generated}
use Rattle.data_servers.proofs.generated.table_of.Goals as goal

pub returns : goal.returns
returns c =
    let same = c.authority.ensures ∙ ap (λ (a : Address). authority_of a) c.base.ensures.base in
    subst (λ (a : List ℕ). IfOk c.generated_table.result (λ table. IsServed a (chosen DefaultGraph (generated c.args.persons)) (triples_in table))) same c.generated_table.ensures
