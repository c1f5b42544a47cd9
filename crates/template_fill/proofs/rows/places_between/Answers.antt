use Rattle.template_fill.proofs.ReadRows.{one_place, two_places, three_places, more_places}
use Rattle.template_fill.proofs.rows.places_between.Goals as goal

pub returns-in_err-rest : goal.returns-in_err-rest
returns-in_err-rest c =
    let end = rw c.in_err-rest.was at c.cut.ensures.after in
    rw c.from_residual.ensures (one_place c.args.text.now end)

pub returns-in_err-rest-2 : goal.returns-in_err-rest-2
returns-in_err-rest-2 c =
    let more = rw c.in_ok-rest.was at c.cut.ensures.after in
    let end = rw c.in_err-rest-2.was at c.cut-2.ensures.after in
    rw c.from_residual-in_err-rest-2.ensures (two_places c.args.text.now c.in_ok-rest.field-0.now more end)

pub returns-in-None : goal.returns-in-None
returns-in-None c =
    let more = rw c.in_ok-rest.was at c.cut.ensures.after in
    let later = rw c.in_ok-rest-2.was at c.cut-2.ensures.after in
    let end = rw c.in-None.is at c.cut-3.ensures.after in
    three_places c.args.text.now c.in_ok-rest.field-0.now c.in_ok-rest-2.field-0.now c.cut.result.0.now c.cut-2.result.0.now c.cut-3.result.0.now more later end c.cut.ensures.before c.cut-2.ensures.before c.cut-3.ensures.before

pub returns-in-Some : goal.returns-in-Some
returns-in-Some c =
    let more = rw c.in_ok-rest.was at c.cut.ensures.after in
    let later = rw c.in_ok-rest-2.was at c.cut-2.ensures.after in
    let again = rw c.in-Some.is at c.cut-3.ensures.after in
    more_places c.args.text.now c.in_ok-rest.field-0.now c.in_ok-rest-2.field-0.now c.in-Some.field-0.now more later again
