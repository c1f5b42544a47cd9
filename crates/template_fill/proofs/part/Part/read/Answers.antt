use Rattle.std.proofs.Common.{◌∙◌}
use Rattle.std.proofs.lemmas.Result.{err_from_is_err_and}
use Rattle.template_fill.specs.declared.fault.TemplateFault.TheVariants as faults
use Rattle.template_fill.proofs.Faults.{same_fault}
use Rattle.template_fill.proofs.Sections.{part-none, part-no_names, part-is, part-kept, literal_ascii}
use Rattle.template_fill.proofs.part.Part.read.Goals as goal

pub returns-in_default-clause-refused : goal.returns-in_default-clause-refused
returns-in_default-clause-refused c = λ _. part-none c.args.bytes.now c.in_default.ensures.shape

pub returns-in_err-names-clause-refused : goal.returns-in_err-names-clause-refused
returns-in_err-names-clause-refused c =
    let p = err_from_is_err_and c.from_residual.result c.from_residual.ensures.1 in
    rw (p.1, p.2) (λ bad. part-no_names c.args.bytes.now _ _ _ c.in-Some.ensures.shape (c.in_err-names.ensures.refused (same_fault _ faults.BadTemplate bad)))

pub ascii_text-requires : goal.ascii_text-requires
ascii_text-requires c = literal_ascii c.in-Some.literal.now c.in-Some.ensures.literal

pub invariant_of-result : goal.invariant_of-result
invariant_of-result c = part-kept _ _ _ _ c.in_ok-names.ensures.read c.in-Some.ensures.literal (c.in_ok-literal.ensures ∙ c.ascii_text.ensures)

pub returns-clause-read : goal.returns-clause-read
returns-clause-read c = part-is c.args.bytes.now _ _ _ _ _ c.in-Some.ensures.shape c.in_ok-names.ensures.read (c.in_ok-literal.ensures ∙ c.ascii_text.ensures)
