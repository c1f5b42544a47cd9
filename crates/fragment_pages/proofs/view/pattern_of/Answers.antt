use Rattle.fragment_pages.proofs.Parts.{no_subject, no_predicate, no_object}
use Rattle.fragment_pages.proofs.view.pattern_of.Goals as goal

pub returns-in_err-subject-clause-pattern : goal.returns-in_err-subject-clause-pattern
returns-in_err-subject-clause-pattern g c = rw c.from_residual.ensures (no_subject c.args.table.now c.args.slots.now c.in_err-subject.ensures.id)

pub returns-in_err-predicate-clause-pattern : goal.returns-in_err-predicate-clause-pattern
returns-in_err-predicate-clause-pattern g c = rw c.from_residual-in_err-predicate.ensures (no_predicate c.args.table.now c.args.slots.now c.in_err-predicate.ensures.id)

pub returns-in_err-object-clause-pattern : goal.returns-in_err-object-clause-pattern
returns-in_err-object-clause-pattern g c = rw c.from_residual-in_err-object.ensures (no_object c.args.table.now c.args.slots.now c.in_err-object.ensures.id)
