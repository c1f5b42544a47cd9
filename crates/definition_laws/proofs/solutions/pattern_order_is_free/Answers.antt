use Rattle.bgp_core.proofs.Patterns.{solutions-patterns, solutions-first}
use Rattle.definition_laws.proofs.solutions.pattern_order_is_free.Goals as goal

pub returns-clause-patterns : goal.returns-clause-patterns
returns-clause-patterns c = solutions-patterns

pub returns-clause-first : goal.returns-clause-first
returns-clause-first c = solutions-first
