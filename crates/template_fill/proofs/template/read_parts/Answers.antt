use Rattle.std.specs.Option.{option_copied}
use Rattle.std.proofs.lemmas.Result.{err_from_is_err_and}
use Rattle.template_fill.specs.declared.fault.TemplateFault.TheVariants as faults
use Rattle.template_fill.proofs.Faults.{same_fault}
use Rattle.template_fill.proofs.Sections.{part-step, part-stop, left_over-after}
use Rattle.template_fill.proofs.template.read_parts.Goals as goal

pub returns-in_err-part-clause-refused : goal.returns-in_err-part-clause-refused
returns-in_err-part-clause-refused c =
    let sections = rw c.in-Some.is at c.loop-rest.invariant in
    let p = err_from_is_err_and c.from_residual.result c.from_residual.ensures.1 in
    rw (p.1, p.2) (λ bad. part-stop _ c.loop-rest.parts.items c.in-Some.text.now c.cut.result.0.now sections c.cut.ensures.before (c.in_err-part.ensures.refused (same_fault _ faults.BadTemplate bad)))

pub loop-rest-smaller : goal.loop-rest-smaller
loop-rest-smaller c =
    let less = left_over-after 123 c.in-Some.text.now in
    rw (c.in-Some.is, c.cut.ensures.after) less

pub loop-rest-preserved : goal.loop-rest-preserved
loop-rest-preserved c =
    let sections = rw c.in-Some.is at c.loop-rest.invariant in
    rw c.in_ok-push.ensures.items (part-step _ c.loop-rest.parts.items c.in-Some.text.now c.cut.result.0.now (option_copied c.cut.result.1) c.in_ok-part.part sections c.cut.ensures.before c.cut.ensures.after c.in_ok-part.ensures.read)
