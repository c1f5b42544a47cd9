use Rattle.group_parser.proofs.Texts.{one_query, one_first, query_apart, some_query}
use Rattle.definition_laws.proofs.groups.one_group_query.Goals as goal

pub returns : goal.returns
returns c = record {
  some = λ text. some_query c.one_group_fault.ensures.some text (c.one_query.ensures.some text);
  queries = λ text g h a b. one_query text g h a b;
  faults = λ text v m w n a b. one_first text v m w n a b;
  apart = λ text g w n a b. query_apart text g w n a b;
}
