use Rattle.restricted_pages.proofs.Joins.{joined, no_subject, no_predicate, no_object}
use Rattle.restricted_pages.proofs.patterns.pattern_of.Goals as goal

pub returns-in_err-subject : goal.returns-in_err-subject
returns-in_err-subject g c = rw c.from_residual.ensures (no_subject c.args.table.now c.args.slots.now c.args.row.now c.in_err-subject.ensures)

pub returns-in_err-predicate : goal.returns-in_err-predicate
returns-in_err-predicate g c = rw c.from_residual-in_err-predicate.ensures (no_predicate c.args.table.now c.args.slots.now c.args.row.now c.in_err-predicate.ensures)

pub returns-in_err-object : goal.returns-in_err-object
returns-in_err-object g c = rw c.from_residual-in_err-object.ensures (no_object c.args.table.now c.args.slots.now c.args.row.now c.in_err-object.ensures)

pub returns : goal.returns
returns g c = joined c.args.table.now c.args.slots.now c.args.row.now c.in_ok-subject.subject c.in_ok-predicate.predicate c.in_ok-object.object c.in_ok-subject.ensures c.in_ok-predicate.ensures c.in_ok-object.ensures
