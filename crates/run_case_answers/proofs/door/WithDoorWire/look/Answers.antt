use Rattle.run_case_answers.proofs.Doors.{same_wire}
use Rattle.run_case_answers.proofs.door.WithDoorWire.look.Goals as goal

pub returns-clause-same : goal.returns-clause-same
returns-clause-same g c = same_wire c.args.self.now.calls _ _ c.look.ensures.same
