use Rattle.std.proofs.Common.{◌≡◌, ◌≤◌, ◌+◌, ◌*◌, drop}
use Rattle.command_words.specs.Commands.{number_after}
use Rattle.command_words.proofs.values.value_up_to.Given as goal

abbrev pub invariant-loop-b : goal.invariant-loop-b
invariant-loop-b l = (number_after 0 l.digits ≡ number_after l.n (drop l.b-index l.digits)) × (l.n ≤ l.most * 10 + 255)
