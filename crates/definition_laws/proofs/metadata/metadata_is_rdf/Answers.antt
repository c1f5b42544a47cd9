use Rattle.definition_laws.proofs.Classes.{metadata_is_rdf}
use Rattle.definition_laws.proofs.metadata.metadata_is_rdf.Goals as goal

pub returns : goal.returns
returns c = metadata_is_rdf
