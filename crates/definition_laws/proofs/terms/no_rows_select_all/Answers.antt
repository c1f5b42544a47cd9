use Rattle.rdf_terms.proofs.SelectionLaws.{all-selected}
use Rattle.definition_laws.proofs.terms.no_rows_select_all.Goals as goal

pub returns : goal.returns
returns c = all-selected
