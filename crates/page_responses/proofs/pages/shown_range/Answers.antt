use Rattle.std.proofs.Common.{sym, ◌∙◌}
use Rattle.page_responses.proofs.PageLaws.{part_listed, part_is_few, part_is_part}
use Rattle.page_responses.proofs.pages.shown_range.Goals as goal

pub returns-clause-triples : goal.returns-clause-triples
returns-clause-triples c = part_listed c.args.table.now c.args.view.now c.requires.page.order c.requires.page.within (sym c.count-triples.ensures.count ∙ c.count-triples.ensures.size)

pub returns-clause-few : goal.returns-clause-few
returns-clause-few c = part_is_few c.args.table.now c.args.slots.now c.args.number c.args.size c.args.view.now c.requires.page

pub returns-clause-part : goal.returns-clause-part
returns-clause-part c = part_is_part c.args.table.now c.args.view.now c.requires.page.range c.requires.page.order c.requires.page.within (sym c.count-triples.ensures.count ∙ c.count-triples.ensures.size)
