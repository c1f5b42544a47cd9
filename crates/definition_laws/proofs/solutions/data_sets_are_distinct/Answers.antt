use Rattle.std.proofs.Common.{[]}
use Rattle.definition_laws.proofs.DataSets.{distinct_after-sorted, none_stands}
use Rattle.definition_laws.proofs.solutions.data_sets_are_distinct.Goals as goal

pub returns : goal.returns
returns c = λ triples set. distinct_after-sorted [] triples (none_stands triples) set.ascending
