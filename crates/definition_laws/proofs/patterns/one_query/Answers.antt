use Rattle.pattern_parser.proofs.OneQuery.{one_query, one_first, query_apart}
use Rattle.pattern_parser.proofs.SomeQuery.{some_query}
use Rattle.definition_laws.proofs.patterns.one_query.Goals as goal

pub returns : goal.returns
returns c = record {
  some = λ text. some_query c.one_reading.ensures.some c.one_fault.ensures.some text;
  queries = λ text q r a b. one_query text q r a b;
  faults = λ text v m w n a b. one_first text v m w n a b;
  apart = λ text q w n a b. query_apart text q w n a b;
}
