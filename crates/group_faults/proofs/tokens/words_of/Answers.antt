use Rattle.std.proofs.Common.{◌≡◌}
use Rattle.group_faults.specs.declared.fault.GroupFault.TheVariants.{Bad}
use Rattle.group_faults.proofs.Texts.{token_bad}
use Rattle.group_faults.proofs.tokens.words_of.Goals as goal

pub returns-in-Err-clause-bad : goal.returns-in-Err-clause-bad
returns-in-Err-clause-bad c = λ w at h.
    let e : c.as_group_fault.result ≡ Bad at w = cc in
    token_bad c.args.text.now c.in-Err.fault c.as_group_fault.result at w c.as_group_fault.ensures e (λ v n k. c.in-Err.ensures.bad v n (cc))
