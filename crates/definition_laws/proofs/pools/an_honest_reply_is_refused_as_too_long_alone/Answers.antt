-- By the laws of the two ends.
use Rattle.pool_laws.proofs.HonestLemmas.{refused_as_too_long}
use Rattle.definition_laws.proofs.pools.an_honest_reply_is_refused_as_too_long_alone.Goals as goal

pub returns : goal.returns
returns c = refused_as_too_long c.a_response_is_cut.ensures.next c.a_response_is_cut.ensures.sent c.an_answer_is_read.ensures.status c.an_answer_is_read.ensures.pages c.an_answer_is_read.ensures.server c.a_reading_stays.ensures.stays
