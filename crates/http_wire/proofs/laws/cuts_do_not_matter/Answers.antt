use Rattle.http_wire.proofs.RunLemmas.{bytes_append, reading_append, reading_stays}
use Rattle.http_wire.proofs.laws.cuts_do_not_matter.Goals as goal

pub returns-clause-place : goal.returns-clause-place
returns-clause-place c = bytes_append

pub returns-clause-reading : goal.returns-clause-reading
returns-clause-reading c = reading_append

pub returns-clause-stays : goal.returns-clause-stays
returns-clause-stays c = reading_stays
