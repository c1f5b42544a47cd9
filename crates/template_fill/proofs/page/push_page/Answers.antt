use Rattle.std.proofs.Common.{arith}
use Rattle.std.proofs.lemmas.Grind.{common_steps}
use Rattle.tpf_base.proofs.DecimalTexts.{decimal_of_u64}
use Rattle.template_fill.proofs.page.push_page.Goals as goal

pub returns-in_ok-push_str-2 : goal.returns-in_ok-push_str-2
returns-in_ok-push_str-2 c = grind (arith, common_steps, decimal_of_u64 c.args.page c.ranges.page.fits)
