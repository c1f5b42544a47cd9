use Rattle.fragment_pages.proofs.Parts.{range_listed, nothing_listed}
use Rattle.fragment_pages.proofs.view.range_of.Goals as goal

pub returns-in-Some-clause-fragment : goal.returns-in-Some-clause-fragment
returns-in-Some-clause-fragment g c = range_listed c.args.table.now c.args.slots.now c.in-Some.pattern c.range.result c.in-Some.ensures.pattern.1 c.range.ensures.fragment

pub returns-in-None-clause-fragment : goal.returns-in-None-clause-fragment
returns-in-None-clause-fragment g c = nothing_listed _ c.args.slots.now c.in-None.ensures.pattern
