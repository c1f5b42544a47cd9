use Rattle.http_ends.proofs.Responses.{request_is_sent, response_is_cut, parts_are_not_owed, replies_are_cut, next_answer_is_cut}
use Rattle.http_ends.proofs.a_response_is_cut.Goals as goal

pub returns-clause-sent : goal.returns-clause-sent
returns-clause-sent c = request_is_sent

pub returns-clause-cut : goal.returns-clause-cut
returns-clause-cut c = response_is_cut

pub returns-clause-part : goal.returns-clause-part
returns-clause-part c = parts_are_not_owed

pub returns-clause-replies : goal.returns-clause-replies
returns-clause-replies c = replies_are_cut

pub returns-clause-next : goal.returns-clause-next
returns-clause-next c = next_answer_is_cut
