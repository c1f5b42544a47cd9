use Rattle.page_responses.proofs.RestLaws.{more_lines}
use Rattle.page_responses.proofs.rest.PageRest.give_more.Goals as goal

pub returns-in_ok-write_lines-in-Nothing-clause-ok : goal.returns-in_ok-write_lines-in-Nothing-clause-ok
returns-in_ok-write_lines-in-Nothing-clause-ok c =
    more_lines c.self.inside.snapshot.table c.table.result.now c.self.inside.metadata c.self.inside.begun c.self.inside.triples c.write_lines.new.self c.self.inside.next c.args.self.now
    c.self.view_is c.table.ensures c.in-Nothing.is c.args.room c.args.out.now.items c.write_lines.new.out.items c.in_ok-write_lines-in-Nothing.ensures.ok
