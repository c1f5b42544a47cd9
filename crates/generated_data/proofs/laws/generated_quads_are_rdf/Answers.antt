use Rattle.generated_data.proofs.Classes.{all_are_rdf, all_are_ground}
use Rattle.generated_data.proofs.laws.generated_quads_are_rdf.Goals as goal

pub returns-clause-rdf : goal.returns-clause-rdf
returns-clause-rdf c = all_are_rdf

pub returns-clause-ground : goal.returns-clause-ground
returns-clause-ground c = all_are_ground
