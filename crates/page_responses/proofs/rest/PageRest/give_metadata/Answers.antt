use Rattle.page_responses.proofs.RestLaws.{given_metadata}
use Rattle.page_responses.proofs.rest.PageRest.give_metadata.Goals as goal

pub returns-clause-ok : goal.returns-clause-ok
returns-clause-ok c =
    given_metadata c.self.inside.snapshot.table c.self.inside.metadata c.self.inside.begun c.self.inside.triples c.self.inside.next c.count-self-inside.result c.args.self.now c.self.view_is c.requires.short c.requires.some c.count-self-inside.ensures.count
    c.args.out.now.items c.write_from.new.out.items c.in_ok-write_from.ensures.ok
