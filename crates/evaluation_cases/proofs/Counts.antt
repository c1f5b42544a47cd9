-- How many tickets an evaluation has given, after a call.
use Rattle.std.proofs.Common.{ℕ, ◌≡◌, ◌+◌, ◌≤◌, Option, Some, None, ap, arith}
use Rattle.request_plan.specs.Evaluations.{Standing, StandsAfterAsk, StandsAfterAnswer}
use Rattle.request_plan.specs.declared.evaluation.Ask.{Ask}
use Rattle.request_plan.specs.declared.evaluation.Answered.{Answered}
use Rattle.request_plan.specs.declared.evaluation.Answered.TheVariants.{Taken, Stranger}

pub asked_one : (before after : Standing) (asked : Option Ask) → StandsAfterAsk before after asked → after.given ≤ before.given + 1
asked_one before after None same = let given : after.given ≡ before.given = ap (λ (s : Standing). s.given) same in omega arith
asked_one before after (Some ask) numbered = let given : after.given ≡ before.given + 1 = numbered.given in omega arith

pub answered_none : (before after : Standing) (ticket : ℕ) (answered : Answered) → StandsAfterAnswer before after ticket answered → after.given ≡ before.given
answered_none before after ticket Taken ended = ended.given
answered_none before after ticket Stranger same = ap (λ (s : Standing). s.given) same.0
