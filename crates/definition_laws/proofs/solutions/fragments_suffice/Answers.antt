use Rattle.bgp_core.proofs.Fragments.{extension-matches, over_fragment}
use Rattle.definition_laws.proofs.solutions.fragments_suffice.Goals as goal

pub returns-clause-matching : goal.returns-clause-matching
returns-clause-matching c = extension-matches

pub returns-clause-rows : goal.returns-clause-rows
returns-clause-rows c = over_fragment
