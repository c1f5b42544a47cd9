use Rattle.std.proofs.Common.{◌≡◌, ℕ, List, ◌++◌, subst}
use Rattle.std.specs.Prelude.{IfOk, codes}
use Rattle.command_endings.specs.Lines.{version_text}
use Rattle.command_endings.proofs.LineLemmas.{five_parts}
use Rattle.command_endings.proofs.lines.versions_line.Goals as goal

pub returns : goal.returns
returns c =
    subst (λ (two : List ℕ). IfOk c.line_of.result (λ v. v.items ≡ codes "changed: " ++ version_text c.args.first ++ codes " " ++ two ++ codes "\n")) c.version_text-two.ensures
    (subst (λ (one : List ℕ). IfOk c.line_of.result (λ v. v.items ≡ codes "changed: " ++ one ++ codes " " ++ c.version_text-two.result.now ++ codes "\n")) c.version_text-one.ensures (subst (λ (l : List ℕ). IfOk c.line_of.result (λ v. v.items ≡ l)) (five_parts (codes "changed: ") c.version_text-one.result.now (codes " ") c.version_text-two.result.now (codes "\n")) c.line_of.ensures))
