use Rattle.std.proofs.Common.{◌≡◌, ℕ, List, ◌++◌, subst, ◌∙◌}
use Rattle.std.specs.Prelude.{IfOk, codes}
use Rattle.command_endings.proofs.LineLemmas.{five_parts}
use Rattle.command_endings.proofs.lines.fault_line.Goals as goal

pub returns : goal.returns
returns c =
    subst (λ (number : List ℕ). IfOk c.line_of.result (λ v. v.items ≡ c.args.front.now ++ number ++ codes ": " ++ c.args.why.now ++ codes "\n"))
    (c.as_bytes-number.ensures.value ∙ c.format.ensures.text) (subst (λ (l : List ℕ). IfOk c.line_of.result (λ v. v.items ≡ l)) (five_parts c.args.front.now c.as_bytes-number.result.now (codes ": ") c.args.why.now (codes "\n")) c.line_of.ensures)
