use Rattle.std.proofs.Common.{◌∙◌, List, ℕ, IfOk, ap, subst}
use Rattle.tpf_base.specs.Addresses.{Address, authority_of}
use Rattle.triple_table.specs.Stored.{triples_in}
use Rattle.data_files.specs.Data.{IsOfFile}
use Rattle.data_servers.proofs.server.table_of.Goals as goal

pub returns-clause-ok : goal.returns-clause-ok
returns-clause-ok g c =
    let same = c.authority.ensures ∙ ap (λ (a : Address). authority_of a) c.base.ensures.base in
    subst (λ (a : List ℕ). IfOk c.read_table.result (λ table. IsOfFile (g.F.Shelf.state c.args.shelf.now).told c.args.name.now c.args.choice.now a (triples_in table))) same c.read_table.ensures.ok
