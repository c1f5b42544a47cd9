-- The numbers of a call for a query with groups over the wire to the server of generated data.
use Rattle.std.proofs.Common.{refl, ◌∙◌}
use Rattle.query_command.proofs.Counting.{may_ask, served_len}
use Rattle.query_command.proofs.GroupFiles.{counted_ok, counted_err}
use Rattle.query_command.proofs.generated_query.count_groups.Goals as goal

pub ask_groups-requires : goal.ask_groups-requires
ask_groups-requires g c = may_ask c.args.server c.args.persons c.requires.starts _ c.usual_over-asked.ensures.usual (c.usual_over-asked.ensures.start ∙ c.requires.start)

pub returns-in-Ok : goal.returns-in-Ok
returns-in-Ok g c =
    counted_ok c.args.server c.args.persons c.requires.starts c.args.query.now _ c.usual_over-asked.ensures.usual _ _ c.len-triples.result c.in-Ok.report refl
    (served_len c.args.server c.server.result.now c.table.result.now c.len-triples.result c.server.ensures c.table.ensures c.len-triples.ensures.len) c.in-Ok.ensures

pub returns-in-Err : goal.returns-in-Err
returns-in-Err g c = counted_err c.args.server c.args.persons c.requires.starts c.args.query.now _ c.usual_over-asked.ensures.usual _ _ c.in-Err.fault refl c.in-Err.ensures
