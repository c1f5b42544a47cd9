use Rattle.run_case_answers.proofs.Doors.{receives}
use Rattle.run_case_answers.proofs.door.WithDoorWire.recv.Goals as goal

pub returns-clause-receives : goal.returns-clause-receives
returns-clause-receives g c = receives c.args.self.now.calls _ _ c.args.link _ _ c.recv.ensures.receives
