use Rattle.group_faults.proofs.Texts.{token_is_fault}
use Rattle.group_parser.proofs.Plain.{plain_query, plain_fault_at}
use Rattle.definition_laws.proofs.groups.plain_texts_agree.Goals as goal

pub returns : goal.returns
returns c = record {
  query = λ text q p r. plain_query c.plain_is_query.ensures text q p r;
  fault = λ text w at p f. plain_fault_at c.plain_is_query.ensures text w at p f;
  token = λ text w at f. token_is_fault text w at f;
}
