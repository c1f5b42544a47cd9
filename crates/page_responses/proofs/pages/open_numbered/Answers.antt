use Rattle.page_responses.specs.Serving.{served}
use Rattle.page_responses.proofs.OpenLaws.{opens_given, opens_past}
use Rattle.page_responses.proofs.pages.open_numbered.Goals as goal

pub returns-in-Some : goal.returns-in-Some
returns-in-Some c =
    opens_given (served c.args.snapshot.now c.args.config.now) c.args.slots.now c.args.number c.table.result.now c.page_size.result c.table.ensures c.page_size.ensures.size c.open_page.result c.in-Some.ensures.0 c.open_page.ensures

pub returns-in-None : goal.returns-in-None
returns-in-None c =
    opens_past (served c.args.snapshot.now c.args.config.now) c.args.slots.now c.args.number c.table.result.now c.page_size.result c.table.ensures c.page_size.ensures.size c.open_status.result
    c.requires.number c.in-None.ensures c.open_status.ensures
