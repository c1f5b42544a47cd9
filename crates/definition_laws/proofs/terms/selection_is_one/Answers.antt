use Rattle.rdf_terms.proofs.SelectionLaws.{one-selection}
use Rattle.definition_laws.proofs.terms.selection_is_one.Goals as goal

pub returns : goal.returns
returns c = one-selection
