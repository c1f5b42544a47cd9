use Rattle.run_case_answers.proofs.Doors.{sends}
use Rattle.run_case_answers.proofs.door.WithDoorWire.send.Goals as goal

pub returns-clause-sends : goal.returns-clause-sends
returns-clause-sends g c = sends c.args.self.now.calls _ _ c.args.link c.args.piece.now _ c.send.ensures.sends
