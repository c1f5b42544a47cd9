use Rattle.run_case_answers.proofs.Doors.{closes}
use Rattle.run_case_answers.proofs.door.WithDoorWire.close.Goals as goal

pub returns-clause-closes : goal.returns-clause-closes
returns-clause-closes g c = closes c.args.self.now.calls _ _ c.args.link c.close.ensures.closes
