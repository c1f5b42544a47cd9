use Rattle.std.proofs.Common.{List, ℕ, ◌++◌, ap, ◌∙◌}
use Rattle.std.specs.String.{string_bytes}
use Rattle.tpf_base.proofs.DecimalTexts.{decimal_of_u64}
use Rattle.metadata_quads.proofs.whole_text.add_number.Goals as goal

pub returns : goal.returns
returns c =
    c.in_ok-push_str.ensures.bytes ∙ ap (λ (l : List ℕ). string_bytes c.args.text.now ++ l) (c.format.ensures.text ∙ decimal_of_u64 c.args.number c.ranges.number.fits)
