use Rattle.http_wire.proofs.StayLemmas.{taken_stays, taken_within, refused_stays}
use Rattle.definition_laws.proofs.requests.a_request_stays.Goals as goal

pub returns-clause-taken : goal.returns-clause-taken
returns-clause-taken c = taken_stays

pub returns-clause-within : goal.returns-clause-within
returns-clause-within c = taken_within

pub returns-clause-refused : goal.returns-clause-refused
returns-clause-refused c = refused_stays
