use Rattle.rdf_terms.proofs.FragmentLaws.{fragment_is}
use Rattle.definition_laws.proofs.terms.fragment_is_one.Goals as goal

pub returns : goal.returns
returns c = λ triples slots. fragment_is triples slots
