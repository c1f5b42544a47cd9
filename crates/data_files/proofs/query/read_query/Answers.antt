use Rattle.data_files.proofs.Causes.{gives_query}
use Rattle.data_files.proofs.query.read_query.Goals as goal

pub returns-clause-exact : goal.returns-clause-exact
returns-clause-exact g c = gives_query (g.F.Shelf.state c.args.shelf.now) (g.F.Shelf.state c.read_by.new.shelf) c.args.name.now c.args.grammar c.read_by.result c.read_by.ensures.ok c.read_by.ensures.err
