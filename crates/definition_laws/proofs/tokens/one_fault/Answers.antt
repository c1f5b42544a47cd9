use Rattle.query_grammar.proofs.Faults.{one_place, some_reading}
use Rattle.definition_laws.proofs.tokens.one_fault.Goals as goal

pub returns : goal.returns
returns c = record { some = λ ks. some_reading c.matching_is_decided.ensures c.beginning_is_decided.ensures ks; faults = λ ks m n a b. one_place ks m n a b; apart = λ ks n q f. f.no_query q }
