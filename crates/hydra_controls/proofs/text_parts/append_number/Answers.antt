use Rattle.std.proofs.Common.{◌≡◌, List, ℕ, ◌++◌, subst, ◌∙◌}
use Rattle.std.specs.Prelude.{OnOk}
use Rattle.tpf_base.proofs.DecimalTexts.{decimal_of_u64}
use Rattle.hydra_controls.proofs.text_parts.append_number.Goals as goal

pub returns-clause-ok : goal.returns-clause-ok
returns-clause-ok c =
    subst (λ (l : List ℕ). OnOk c.append.result (c.append.new.out.items ≡ c.args.out.now.items ++ l)) (c.format.ensures.text ∙ decimal_of_u64 c.args.number c.ranges.number.fits) c.append.ensures.ok
