use Rattle.run_case_answers.proofs.Doors.{gives_ok, gives_none_err, only_dials, dials_steadily}
use Rattle.run_case_answers.proofs.door.WithDoorDial.dial.Goals as goal

pub returns-clause-ok : goal.returns-clause-ok
returns-clause-ok g c = gives_ok c.args.self.now.calls _ _ _ _ c.dial.ensures.ok

pub returns-clause-err : goal.returns-clause-err
returns-clause-err g c = gives_none_err c.args.self.now.calls _ _ _ c.dial.ensures.err

pub returns-clause-only : goal.returns-clause-only
returns-clause-only g c = only_dials c.args.self.now.calls _ _ c.dial.ensures.only

pub returns-clause-steady : goal.returns-clause-steady
returns-clause-steady g c = λ steady. dials_steadily c.args.self.now.calls _ _ _ (c.dial.ensures.steady steady)
