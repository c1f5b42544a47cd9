use Rattle.std.proofs.Common.{take}
use Rattle.request_plan.specs.Rounds.{AreFirst, ShareForms}
use Rattle.request_plan.proofs.round.first_addresses.Given as goal

abbrev pub invariant-loop-form : goal.invariant-loop-form
invariant-loop-form l = AreFirst (take l.form-index l.forms) (record { slots = l.slots; rows = l.rows }) l.addresses.items × ShareForms (take l.form-index l.forms) l.addresses.items
