use Rattle.std.proofs.Common.{subst}
use Rattle.restricted_pages.specs.Pages.{IsSelectedAnswer}
use Rattle.page_responses.specs.Serving.{served}
use Rattle.page_responses.proofs.OpenLaws.{restricted_past}
use Rattle.page_responses.proofs.pages.open_restricted.Goals as goal

pub returns-in-None : goal.returns-in-None
returns-in-None c =
    let none = subst (IsSelectedAnswer c.args.snapshot.now.table c.args.slots.now c.args.rows.now c.args.number c.args.config.now.page_size) c.in-None.is c.in_ok-page.ensures in
    restricted_past (served c.args.snapshot.now c.args.config.now) c.args.slots.now c.args.rows.now c.args.number c.open_status.result c.requires.number none c.open_status.ensures
