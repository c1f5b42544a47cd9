use Rattle.std.proofs.Common.{◌∙◌}
use Rattle.tpf_base.specs.Decimals.{decimal_text}
use Rattle.tpf_base.proofs.DecimalTexts.{decimal_of_u64}
use Rattle.hydra_controls.proofs.CutLaws.{cuts_same}
use Rattle.hydra_controls.proofs.text_parts.push_number.Goals as goal

pub returns-clause-ok : goal.returns-clause-ok
returns-clause-ok c =
    cuts_same c.args.cut.now c.push.new.self c.as_bytes.result.now (decimal_text c.args.number) c.args.out.now.items c.push.new.out.items
    (c.as_bytes.ensures.value ∙ c.format.ensures.text ∙ decimal_of_u64 c.args.number c.ranges.number.fits) c.in_ok-push.ensures.ok
