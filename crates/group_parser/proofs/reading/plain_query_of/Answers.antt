use Rattle.std.proofs.Common.{◌≡◌, ◌∙◌, sym}
use Rattle.group_faults.specs.declared.fault.GroupFault.TheVariants.{Bad}
use Rattle.group_parser.proofs.Asking.{plain_bad}
use Rattle.group_parser.proofs.reading.plain_query_of.Goals as goal

pub returns-in-Err-clause-bad : goal.returns-in-Err-clause-bad
returns-in-Err-clause-bad c = λ w at h.
    let e : c.as_group_fault.result ≡ Bad at w = cc in
    plain_bad c.plain_is_query.ensures c.args.words.now c.in-Err.fault at w c.requires.query c.requires.plain (λ v n k. c.in-Err.ensures.bad v n (cc)) (sym c.as_group_fault.ensures ∙ e)
