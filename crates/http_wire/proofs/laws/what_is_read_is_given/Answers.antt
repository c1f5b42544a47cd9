use Rattle.http_wire.proofs.GivenLemmas.{what_is_read}
use Rattle.http_wire.proofs.laws.what_is_read_is_given.Goals as goal

pub returns : goal.returns
returns c = what_is_read
