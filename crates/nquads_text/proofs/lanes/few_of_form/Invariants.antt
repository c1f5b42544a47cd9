use Rattle.std.proofs.Common.{◌-◌, length}
use Rattle.nquads_text.specs.Grammar.{is_form_byte}
use Rattle.nquads_text.specs.Runs.{PassesFrom}
use Rattle.nquads_text.proofs.lanes.few_of_form.Given as goal

abbrev pub invariant-loop-at : goal.invariant-loop-at
invariant-loop-at l = PassesFrom is_form_byte l.bytes l.from l.at

abbrev pub decreases-loop-at : goal.decreases-loop-at
decreases-loop-at l = length l.bytes - l.at
