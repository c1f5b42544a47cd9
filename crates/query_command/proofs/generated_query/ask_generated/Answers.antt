-- The numbers of a call over the wire to the server of generated data.
use Rattle.std.proofs.Common.{◌∙◌}
use Rattle.query_command.proofs.Counting.{may_ask, served_len, counts_of, asks_over, fails_on, replies_rows, bounds_usual, sends_usual, honest_usual, may_fail}
use Rattle.query_command.proofs.generated_query.ask_generated.Goals as goal

pub ask_server-requires : goal.ask_server-requires
ask_server-requires g c = may_ask c.args.server c.args.persons c.requires.starts _ c.usual_over-asked.ensures.usual (c.usual_over-asked.ensures.start ∙ c.requires.start)

pub returns-in-Ok-clause-counts : goal.returns-in-Ok-clause-counts
returns-in-Ok-clause-counts g c =
    counts_of c.args.server c.args.persons c.requires.starts c.args.query.now c.len-triples.result c.in-Ok.report.rows (served_len c.args.server c.server.result.now c.table.result.now c.len-triples.result c.server.ensures c.table.ensures c.len-triples.ensures.len) c.in-Ok.ensures.answer

pub returns-in-Ok-clause-answers : goal.returns-in-Ok-clause-answers
returns-in-Ok-clause-answers g c = asks_over c.args.server c.args.persons c.requires.starts c.args.query.now _ c.usual_over-asked.ensures.usual _ c.in-Ok.report c.in-Ok.ensures.answers

pub returns-in-Err-clause-cause : goal.returns-in-Err-clause-cause
returns-in-Err-clause-cause g c = fails_on c.args.server c.args.persons c.requires.starts c.args.query.now _ c.usual_over-asked.ensures.usual _ c.in-Err.fault c.in-Err.ensures.cause

pub returns-in-Ok-clause-replied : goal.returns-in-Ok-clause-replied
returns-in-Ok-clause-replied g c = replies_rows c.args.server _ c.usual_over-asked.ensures.usual c.args.query.now _ c.in-Ok.report c.in-Ok.ensures.replied

pub returns-in-Ok-clause-sent : goal.returns-in-Ok-clause-sent
returns-in-Ok-clause-sent g c = sends_usual c.args.server _ c.usual_over-asked.ensures.usual c.args.query.now _ c.ask_server.ensures.sent

pub returns-in-Err-clause-sent : goal.returns-in-Err-clause-sent
returns-in-Err-clause-sent g c = sends_usual c.args.server _ c.usual_over-asked.ensures.usual c.args.query.now _ c.ask_server.ensures.sent

pub returns-in-Ok-clause-requested : goal.returns-in-Ok-clause-requested
returns-in-Ok-clause-requested g c = bounds_usual c.args.server _ c.usual_over-asked.ensures.usual c.args.query.now _ c.ask_server.ensures.requested

pub returns-in-Err-clause-requested : goal.returns-in-Err-clause-requested
returns-in-Err-clause-requested g c = bounds_usual c.args.server _ c.usual_over-asked.ensures.usual c.args.query.now _ c.ask_server.ensures.requested

pub returns-in-Ok-clause-honest : goal.returns-in-Ok-clause-honest
returns-in-Ok-clause-honest g c = honest_usual c.args.server _ c.usual_over-asked.ensures.usual _ c.ask_server.ensures.honest

pub returns-in-Err-clause-honest : goal.returns-in-Err-clause-honest
returns-in-Err-clause-honest g c = honest_usual c.args.server _ c.usual_over-asked.ensures.usual _ c.ask_server.ensures.honest

pub returns-in-Err-clause-ends : goal.returns-in-Err-clause-ends
returns-in-Err-clause-ends g c = may_fail c.args.server _ c.usual_over-asked.ensures.usual c.args.query.now c.in-Err.fault c.in-Err.ensures.ends
