use Rattle.page_responses.proofs.RestLaws.{part_is_first}
use Rattle.page_responses.proofs.rest.PageTriples.first.Goals as goal

pub returns-in-Part : goal.returns-in-Part
returns-in-Part c = part_is_first c.args.table.now c.args.self.now c.in-Part.range c.at.result c.in-Part.is c.requires.part c.requires.some c.at.ensures.ids c.at.ensures.triple
