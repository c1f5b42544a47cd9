use Rattle.std.proofs.Common.{◌≡◌, ℕ, List, ◌++◌, drop}
use Rattle.own_controls.specs.Lines.{lines_text}
use Rattle.own_controls.proofs.lines.behind_lines.Given as goal

abbrev pub invariant-loop-line : goal.invariant-loop-line
invariant-loop-line l = (end : List ℕ) → l.rest ≡ lines_text l.ending (drop l.line-index l.lines) ++ end → l.bytes ≡ lines_text l.ending l.lines ++ end
