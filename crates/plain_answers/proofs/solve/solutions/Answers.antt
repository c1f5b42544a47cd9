use Rattle.bgp_core.specs.Solutions.{distinct}
use Rattle.std.proofs.Common.{length}
use Rattle.bgp_core.proofs.Lengths.{all_fit}
use Rattle.plain_answers.proofs.solve.solutions.Goals as goal

pub returns-clause-fit : goal.returns-clause-fit
returns-clause-fit c = all_fit (length c.args.query.now.names) (distinct c.args.triples.now) c.args.query.now.patterns _ c.in_ok-rows.ensures
