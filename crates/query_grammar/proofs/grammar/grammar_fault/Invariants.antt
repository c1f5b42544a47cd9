use Rattle.std.proofs.Common.{Some}
use Rattle.query_grammar.proofs.Faults.{At}
use Rattle.query_grammar.proofs.grammar.grammar_fault.Given as goal

abbrev pub invariant-loop-i : goal.invariant-loop-i
invariant-loop-i l = At l.kinds l.i (Some l.state)
