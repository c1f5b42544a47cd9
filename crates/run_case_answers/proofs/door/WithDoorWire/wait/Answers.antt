use Rattle.run_case_answers.proofs.Doors.{wakes_ok, gives_none_err, only_waits, waits_steadily}
use Rattle.run_case_answers.proofs.door.WithDoorWire.wait.Goals as goal

pub returns-clause-ok : goal.returns-clause-ok
returns-clause-ok g c = wakes_ok c.args.self.now.calls _ _ _ c.wait.ensures.ok

pub returns-clause-err : goal.returns-clause-err
returns-clause-err g c = gives_none_err c.args.self.now.calls _ _ _ c.wait.ensures.err

pub returns-clause-only : goal.returns-clause-only
returns-clause-only g c = only_waits c.args.self.now.calls _ _ c.wait.ensures.only

pub returns-clause-steady : goal.returns-clause-steady
returns-clause-steady g c = λ steady. waits_steadily c.args.self.now.calls _ _ _ (c.wait.ensures.steady steady)
