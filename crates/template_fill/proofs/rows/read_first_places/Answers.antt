use Rattle.template_fill.proofs.ReadRows.{no_first, no_second, both}
use Rattle.template_fill.proofs.rows.read_first_places.Goals as goal

pub returns-in_default : goal.returns-in_default
returns-in_default c = no_first c.args.subject.now c.args.predicate.now c.in_ok-subject.field-0 c.in_ok-subject.ensures c.in_default.is

pub returns-in-Ok-None : goal.returns-in-Ok-None
returns-in-Ok-None c = no_second c.args.subject.now c.args.predicate.now c.in_ok-subject.field-0 c.in-Ok-None.field-0 c.in-Some.subject c.in_ok-subject.ensures c.in-Some.is c.in-Ok-None.ensures c.in-Ok-None.field-0-is

pub returns-in-Ok-Some : goal.returns-in-Ok-Some
returns-in-Ok-Some c = both c.args.subject.now c.args.predicate.now c.in_ok-subject.field-0 c.in-Ok-Some.field-0 c.in-Some.subject c.in-Ok-Some.predicate c.in_ok-subject.ensures c.in-Some.is c.in-Ok-Some.ensures c.in-Ok-Some.field-0-is
