use Rattle.std.proofs.Common.{List, ℕ, IfOk, subst}
use Rattle.triple_table.specs.Stored.{triples_in}
use Rattle.data_files.specs.Data.{IsOfFile}
use Rattle.data_servers.proofs.supply.FileSupply.read.Goals as goal

pub returns-clause-given : goal.returns-clause-given
returns-clause-given g c =
    subst (λ (a : List ℕ). IfOk c.read_table.result (λ table. IsOfFile (g.F.Shelf.state c.args.self.now.shelf.now).told c.args.self.now.name.now c.args.self.now.choice.now a (triples_in table))) c.authority-authority.ensures c.read_table.ensures.ok
