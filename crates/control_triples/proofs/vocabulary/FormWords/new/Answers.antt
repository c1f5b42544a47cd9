use Rattle.control_triples.specs.Vocabulary.{form_words, form_template, representation, explicit_representation, form_mapping, mapped_property, rdf_subject, rdf_predicate, rdf_object}
use Rattle.control_triples.proofs.vocabulary.FormWords.new.Goals as goal

pub invariant_of-result : goal.invariant_of-result
unfolding form_words form_template representation explicit_representation form_mapping mapped_property rdf_subject rdf_predicate rdf_object
invariant_of-result c = c.in_ok-terms.ensures
