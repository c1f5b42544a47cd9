use Rattle.pattern_parser.specs.Queries.{prefixes, body, select_names}
use Rattle.definition_laws.proofs.AsRead.{read_body}
use Rattle.definition_laws.proofs.patterns.read_as_produced.Goals as goal

pub returns : goal.returns
returns c = λ text ws r. read_body (prefixes ws) (select_names (body ws)) ws r.query
