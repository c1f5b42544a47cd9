use Rattle.list_laws.proofs.Begins.{begins_on}
use Rattle.triple_table.specs.Stored.{held_terms, triple_at}
use Rattle.page_responses.proofs.PartLaws.{triple_cuts}
use Rattle.page_responses.proofs.parts.cut_triple.Goals as goal

pub returns-clause-ok : goal.returns-clause-ok
returns-clause-ok c =
    triple_cuts c.args.from c.new-cut.result c.cut_ended.new.cut c.cut_ended-2.new.cut c.cut_ended-3.new.cut (triple_at (held_terms c.args.table.now) c.args.ids) c.term.result.now c.term-2.result.now c.term-3.result.now
    c.args.out.now.items c.cut_ended.new.out.items c.cut_ended-2.new.out.items c.cut_ended-3.new.out.items
    c.new-cut.ensures c.term.ensures.term c.term-2.ensures.term c.term-3.ensures.term c.in_ok-cut_ended.ensures.ok c.in_ok-cut_ended-2.ensures.ok c.in_ok-cut_ended-3.ensures.ok

pub returns-in_err-cut_ended-2-clause-front : goal.returns-in_err-cut_ended-2-clause-front
returns-in_err-cut_ended-2-clause-front c = begins_on c.args.out.now.items c.cut_ended.new.out.items c.cut_ended-2.new.out.items c.in_ok-cut_ended.ensures.front c.in_err-cut_ended-2.ensures.front

pub returns-in_err-cut_ended-3-clause-front : goal.returns-in_err-cut_ended-3-clause-front
returns-in_err-cut_ended-3-clause-front c =
    let old = c.args.out.now.items in
    let one = c.cut_ended.new.out.items in
    let two = c.cut_ended-2.new.out.items in
    begins_on old two c.cut_ended-3.new.out.items (begins_on old one two c.in_ok-cut_ended.ensures.front c.in_ok-cut_ended-2.ensures.front) c.in_err-cut_ended-3.ensures.front

pub returns-clause-front : goal.returns-clause-front
returns-clause-front c =
    let old = c.args.out.now.items in
    let one = c.cut_ended.new.out.items in
    let two = c.cut_ended-2.new.out.items in
    begins_on old two c.cut_ended-3.new.out.items (begins_on old one two c.in_ok-cut_ended.ensures.front c.in_ok-cut_ended-2.ensures.front) c.in_ok-cut_ended-3.ensures.front
