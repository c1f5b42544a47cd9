use Rattle.control_reader.proofs.Pages.{exactly_page, exactly_fault}
use Rattle.control_reader.proofs.read.read_page.Goals as goal

pub returns-clause-only_taken : goal.returns-clause-only_taken
returns-clause-only_taken c = exactly_page c.args.body.now c.args.address.now c.read_exactly.result c.read_exactly.ensures

pub returns-clause-only_refused : goal.returns-clause-only_refused
returns-clause-only_refused c = exactly_fault c.args.body.now c.args.address.now c.read_exactly.result c.read_exactly.ensures
