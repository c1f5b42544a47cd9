use Rattle.http_wire.proofs.LawLemmas.{reply_bounded, reply_few}
use Rattle.http_wire.proofs.laws.a_reply_is_bounded.Goals as goal

pub returns-clause-few : goal.returns-clause-few
returns-clause-few c = reply_few

pub returns-clause-most : goal.returns-clause-most
returns-clause-most c = reply_bounded
