use Rattle.std.proofs.Common.{◌≡◌, ℕ, List, ◌++◌, subst, ◌∙◌}
use Rattle.std.specs.Prelude.{IfOk, codes}
use Rattle.command_endings.proofs.lines.number_line.Goals as goal

pub returns : goal.returns
returns c =
    subst (λ (number : List ℕ). IfOk c.named_line.result (λ v. v.items ≡ c.args.front.now ++ number ++ codes "\n"))
    (c.as_bytes-number.ensures.value ∙ c.format.ensures.text) c.named_line.ensures
