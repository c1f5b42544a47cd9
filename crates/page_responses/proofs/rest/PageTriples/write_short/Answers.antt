use Rattle.std.proofs.Common.{subst, sym, arith}
use Rattle.page_responses.specs.PageRests.{ArePart}
use Rattle.page_responses.proofs.RestLaws.{fewer_lines, more_line}
use Rattle.page_responses.proofs.rest.PageTriples.write_short.Goals as goal

pub returns-clause-ok : goal.returns-clause-ok
returns-clause-ok c =
    more_line c.args.table.now c.args.self.now c.skip.new.self c.first-ids.result c.first-ids.ensures.first c.skip.ensures c.args.room c.triple_length.result c.args.out.now.items c.write_triple.new.out.items
    c.triple_length.ensures.length (omega arith) c.in_ok-write_triple.ensures.ok

pub returns-clause-fewer : goal.returns-clause-fewer
returns-clause-fewer c = λ short. fewer_lines c.args.table.now c.args.self.now c.skip.new.self c.first-ids.result c.first-ids.ensures.first c.skip.ensures

pub returns-clause-part : goal.returns-clause-part
returns-clause-part c = subst (ArePart c.args.table.now) (sym c.skip.ensures) c.first-ids.ensures.part
