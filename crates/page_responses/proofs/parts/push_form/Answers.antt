use Rattle.std.proofs.Common.{◌++◌, arith, refl}
use Rattle.std.specs.List.{concat}
use Rattle.list_laws.proofs.Begins.{begins_on, itself_begins}
use Rattle.page_responses.specs.Parts.{form_marks}
use Rattle.page_responses.proofs.FormLaws.{form_over, form_pushed}
use Rattle.page_responses.proofs.parts.push_form.Goals as goal

pub loop-b-init : goal.loop-b-init
loop-b-init c = (refl, itself_begins c.args.out.now.items)

pub loop-b-preserved : goal.loop-b-preserved
loop-b-preserved c = (
  form_pushed c.args.form.now c.loop-b.b-index _ (c.args.out.now.items ++ concat (form_marks c.args.form.now)) c.loop-b.out.items c.push_byte.new.out.items
      c.loop-b-test.true c.in_ok-push_byte.ensures.ok c.loop-b.invariant.0,
  begins_on c.args.out.now.items c.loop-b.out.items c.push_byte.new.out.items c.loop-b.invariant.1 c.in_ok-push_byte.ensures.front,
)

pub returns-in_err-push_byte-clause-front : goal.returns-in_err-push_byte-clause-front
returns-in_err-push_byte-clause-front c = begins_on c.args.out.now.items c.loop-b.out.items c.push_byte.new.out.items c.loop-b.invariant.1 c.in_err-push_byte.ensures.front

pub returns-clause-ok : goal.returns-clause-ok
returns-clause-ok c =
    form_over c.args.form.now c.loop-b.b-index (c.args.out.now.items ++ concat (form_marks c.args.form.now)) c.loop-b.out.items (omega (arith, c.loop-b-test.false)) c.loop-b.invariant.0

pub returns-clause-front : goal.returns-clause-front
returns-clause-front c = c.loop-b.invariant.1
