use Rattle.bgp_core.proofs.Swaps.{extension-Commute}
use Rattle.definition_laws.proofs.solutions.extensions_commute.Goals as goal

pub returns : goal.returns
returns c = extension-Commute
