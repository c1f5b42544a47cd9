use Rattle.rdf_terms.proofs.Asked.{askable_are_kept, unasked_match_nothing}
use Rattle.rdf_terms.proofs.laws.askable_slots_are_kept.Goals as goal

pub returns-clause-kept : goal.returns-clause-kept
returns-clause-kept c = askable_are_kept

pub returns-clause-others : goal.returns-clause-others
returns-clause-others c = unasked_match_nothing
