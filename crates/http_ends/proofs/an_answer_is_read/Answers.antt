use Rattle.http_ends.proofs.Answers.{answers_are_read, answers_have_status, heads_are_short, long_heads_are_refused, pages_are_nquads, server_answers_are_read}
use Rattle.http_ends.proofs.an_answer_is_read.Goals as goal

pub returns-clause-read : goal.returns-clause-read
returns-clause-read c = answers_are_read

pub returns-clause-refused : goal.returns-clause-refused
returns-clause-refused c = long_heads_are_refused

pub returns-clause-short : goal.returns-clause-short
returns-clause-short c = heads_are_short

pub returns-clause-status : goal.returns-clause-status
returns-clause-status c = answers_have_status

pub returns-clause-server : goal.returns-clause-server
returns-clause-server c = server_answers_are_read

pub returns-clause-pages : goal.returns-clause-pages
returns-clause-pages c = pages_are_nquads
