use Rattle.tpf_server.proofs.OpenLaws.{opens_number, opens_refused, opens_version}
use Rattle.tpf_server.proofs.owed.open_answer.Goals as goal

pub returns-in-Refused : goal.returns-in-Refused
returns-in-Refused c = opens_refused c.args.config.now c.in-Refused.status c.args.asking.now c.open_status.result c.in-Refused.is c.open_status.ensures

pub returns-in-Reloaded : goal.returns-in-Reloaded
returns-in-Reloaded c = opens_version c.args.config.now c.in-Reloaded.number c.args.asking.now c.open_version.result c.in-Reloaded.is c.open_version.ensures.few c.open_version.ensures.opened

pub returns-in-Page : goal.returns-in-Page
returns-in-Page c = opens_number c.args.config.now c.in-Page.snapshot c.in-Page.slots c.in-Page.rows c.as_slice.result.now c.in-Page.page c.args.asking.now c.open_selected.result c.in-Page.is c.as_slice.ensures.rows c.open_selected.ensures
