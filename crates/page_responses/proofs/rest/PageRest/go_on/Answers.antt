use Rattle.page_responses.proofs.RestLaws.{fits_line, fits_on, fits_triple, given_line, given_triple, not_none}
use Rattle.page_responses.proofs.rest.PageRest.go_on.Goals as goal

pub returns-in-Nothing-clause-ok : goal.returns-in-Nothing-clause-ok
returns-in-Nothing-clause-ok c =
    absurd (not_none c.self.inside.snapshot.table c.self.inside.metadata c.self.inside.begun c.self.inside.triples c.self.inside.next c.args.self.now c.self.view_is c.in-Nothing.is c.requires)

pub write_triple_part-requires-clause-ids : goal.write_triple_part-requires-clause-ids
write_triple_part-requires-clause-ids c =
    (fits_triple c.self.inside.snapshot.table c.table.result.now c.self.inside.metadata c.self.inside.begun c.in-Triple.ids c.in-Triple.from c.table.ensures c.in-Triple.is c.self.invariant).0

pub write_triple_part-requires-clause-some : goal.write_triple_part-requires-clause-some
write_triple_part-requires-clause-some c =
    (fits_triple c.self.inside.snapshot.table c.table.result.now c.self.inside.metadata c.self.inside.begun c.in-Triple.ids c.in-Triple.from c.table.ensures c.in-Triple.is c.self.invariant).1

pub write_line_part-requires-clause-place : goal.write_line_part-requires-clause-place
write_line_part-requires-clause-place c = (fits_line c.self.inside.snapshot.table c.self.inside.metadata c.self.inside.begun c.in-Line.place c.in-Line.from c.in-Line.is c.self.invariant).0

pub write_line_part-requires-clause-some : goal.write_line_part-requires-clause-some
write_line_part-requires-clause-some c = (fits_line c.self.inside.snapshot.table c.self.inside.metadata c.self.inside.begun c.in-Line.place c.in-Line.from c.in-Line.is c.self.invariant).1

pub invariant_of-self : goal.invariant_of-self
invariant_of-self c =
    fits_on c.self.inside.snapshot.table c.table.result.now c.self.inside.metadata c.in_ok-self-inside-in-Triple.field-0 c.table.ensures (c.in_ok-self-inside-in-Triple.ensures.begun c.self.inside.metadata)

pub invariant_of-self-in-Line : goal.invariant_of-self-in-Line
invariant_of-self-in-Line c = c.in_ok-self-inside-in-Line.ensures.begun c.self.inside.snapshot.table

pub returns-in_ok-self-inside-in-Triple-clause-ok : goal.returns-in_ok-self-inside-in-Triple-clause-ok
returns-in_ok-self-inside-in-Triple-clause-ok c =
    given_triple c.self.inside.snapshot.table c.self.inside.metadata c.self.inside.begun c.self.inside.triples c.self.inside.next c.args.self.now c.self.view_is
    c.table.result.now c.in-Triple.ids c.in-Triple.from c.in_ok-self-inside-in-Triple.field-0 c.args.out.now.items c.write_triple_part.new.out.items c.table.ensures c.in-Triple.is
    (c.in_ok-self-inside-in-Triple.ensures.ok c.self.inside.metadata)

pub returns-in_ok-self-inside-in-Line-clause-ok : goal.returns-in_ok-self-inside-in-Line-clause-ok
returns-in_ok-self-inside-in-Line-clause-ok c =
    given_line c.self.inside.snapshot.table c.self.inside.metadata c.self.inside.begun c.self.inside.triples c.self.inside.next c.args.self.now c.self.view_is
    c.in-Line.place c.in-Line.from c.in_ok-self-inside-in-Line.field-0 c.args.out.now.items c.write_line_part.new.out.items c.in-Line.is
    (c.in_ok-self-inside-in-Line.ensures.ok c.self.inside.snapshot.table)
