use Rattle.template_fill.proofs.ReadRows.{no_places, no_pair, no_object, some_row}
use Rattle.template_fill.proofs.rows.read_row.Goals as goal

pub returns-in_default : goal.returns-in_default
returns-in_default c = no_places c.args.text.now c.as_bytes.result.now c.as_bytes.ensures.value c.in_default.ensures

pub returns-in_default-2 : goal.returns-in_default-2
returns-in_default-2 c =
    no_pair c.args.text.now c.as_bytes.result.now c.in-Some.subject.now c.in-Some.predicate.now c.in-Some.object.now c.in_ok-subject.field-0 c.as_bytes.ensures.value c.in-Some.ensures c.in_ok-subject.ensures c.in_default-2.is

pub returns-in-Ok-None : goal.returns-in-Ok-None
returns-in-Ok-None c =
    no_object c.args.text.now c.as_bytes.result.now c.in-Some.subject.now c.in-Some.predicate.now c.in-Some.object.now c.in_ok-subject.field-0 c.in-Ok-None.field-0 c.in-Some-2.subject c.in-Some-2.predicate c.as_bytes.ensures.value c.in-Some.ensures c.in_ok-subject.ensures c.in-Some-2.is
    c.in-Ok-None.ensures c.in-Ok-None.field-0-is

pub returns-in-Ok-Some : goal.returns-in-Ok-Some
returns-in-Ok-Some c =
    some_row c.args.text.now c.as_bytes.result.now c.in-Some.subject.now c.in-Some.predicate.now c.in-Some.object.now c.in_ok-subject.field-0 c.in-Ok-Some.field-0 c.in-Some-2.subject c.in-Some-2.predicate c.in-Ok-Some.object c.as_bytes.ensures.value c.in-Some.ensures
    c.in_ok-subject.ensures c.in-Some-2.is c.in-Ok-Some.ensures c.in-Ok-Some.field-0-is
