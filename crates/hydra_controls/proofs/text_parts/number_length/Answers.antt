use Rattle.std.proofs.Common.{List, ℕ, length, ap, ◌∙◌}
use Rattle.tpf_base.proofs.DecimalTexts.{decimal_of_u64}
use Rattle.hydra_controls.proofs.text_parts.number_length.Goals as goal

pub returns-clause-length : goal.returns-clause-length
returns-clause-length c = ap (λ (l : List ℕ). length l) (c.format.ensures.text ∙ decimal_of_u64 c.args.number c.ranges.number.fits)
