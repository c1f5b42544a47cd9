use Rattle.std.proofs.Common.{arith}
use Rattle.page_responses.proofs.RestLaws.{first_line, first_line_long, line_stands, quads_within}
use Rattle.page_responses.proofs.rest.PageRest.begin_line.Goals as goal

pub overflow_add-self : goal.overflow_add-self
overflow_add-self c =
    let within = quads_within c.self.inside.snapshot.table c.self.inside.triples c.self.inside.metadata c.self.inside.next _ c.args.self.now c.self.view_is c.requires.some in
    omega (arith, within)

pub invariant_of-self : goal.invariant_of-self
invariant_of-self c =
    first_line c.self.inside.snapshot.table c.self.inside.metadata c.self.inside.next
    (quads_within c.self.inside.snapshot.table c.self.inside.triples c.self.inside.metadata c.self.inside.next _ c.args.self.now c.self.view_is c.requires.some)

pub returns-clause-text : goal.returns-clause-text
returns-clause-text c =
    line_stands c.self.inside.snapshot.table c.self.inside.triples c.self.inside.metadata c.self.inside.next _ c.args.self.now c.self.view_is c.requires.none c.requires.past c.requires.some

pub returns-clause-begun : goal.returns-clause-begun
returns-clause-begun c =
    first_line_long c.self.inside.snapshot.table c.self.inside.metadata c.self.inside.next
    (quads_within c.self.inside.snapshot.table c.self.inside.triples c.self.inside.metadata c.self.inside.next _ c.args.self.now c.self.view_is c.requires.some)
