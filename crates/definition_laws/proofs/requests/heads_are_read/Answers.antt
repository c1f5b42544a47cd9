use Rattle.http_wire.proofs.ConnectionLemmas.{heads_read, all_read, more_heads}
use Rattle.definition_laws.proofs.requests.heads_are_read.Goals as goal

pub returns-clause-first : goal.returns-clause-first
returns-clause-first c = heads_read

pub returns-clause-all : goal.returns-clause-all
returns-clause-all c = all_read

pub returns-clause-more : goal.returns-clause-more
returns-clause-more c = more_heads
