use Rattle.page_responses.proofs.RestLaws.{line_begun, none_begun, triple_begun}
use Rattle.page_responses.proofs.rest.PageRest.is_begun.Goals as goal

pub returns-in-Nothing : goal.returns-in-Nothing
returns-in-Nothing c = none_begun c.self.inside.snapshot.table c.self.inside.metadata c.self.inside.begun c.self.inside.triples c.self.inside.next c.args.self.now c.self.view_is c.in-Nothing.is

pub returns-in-Triple : goal.returns-in-Triple
returns-in-Triple c = triple_begun c.self.inside.snapshot.table c.self.inside.metadata c.self.inside.begun c.self.inside.triples c.self.inside.next c.args.self.now c.self.view_is _ _ c.in-Triple.is c.self.invariant

pub returns-in-Line : goal.returns-in-Line
returns-in-Line c = line_begun c.self.inside.snapshot.table c.self.inside.metadata c.self.inside.begun c.self.inside.triples c.self.inside.next c.args.self.now c.self.view_is _ _ c.in-Line.is c.self.invariant
