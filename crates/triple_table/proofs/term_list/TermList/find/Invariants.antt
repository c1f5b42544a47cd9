use Rattle.std.proofs.Common.{◌≡◌, ◌-◌}
use Rattle.std.specs.declared.cmp.Ordering.TheVariants.{Less, Greater}
use Rattle.rdf_terms.specs.declared.term.Term.{Term}
use Rattle.rdf_terms.specs.Order.{term_order}
use Rattle.triple_table.proofs.Narrowing.{Narrowed}
use Rattle.triple_table.proofs.term_list.TermList.find.Given as goal

abbrev pub invariant-loop-low : goal.invariant-loop-low
invariant-loop-low g l = Narrowed (λ (t : Term). term_order t l.term ≡ Less) (λ (t : Term). term_order t l.term ≡ Greater) l.self l.low l.high l.fn.steps l.steps

abbrev pub decreases-loop-low : goal.decreases-loop-low
decreases-loop-low g l = l.high - l.low
