use Rattle.std.proofs.Common.{◌≡◌, ◌++◌, drop}
use Rattle.pattern_parser.specs.Names.{variable_numbers}
use Rattle.pattern_parser.proofs.select.variable_numbers.Given as goal

abbrev pub invariant-loop-i : goal.invariant-loop-i
invariant-loop-i l = l.numbers.items ++ variable_numbers l.i (drop l.i l.names) ≡ variable_numbers 0 l.names
