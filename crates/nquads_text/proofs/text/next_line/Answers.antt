use Rattle.std.proofs.Common.{◌≡◌, ◌∙◌, ap, sym, Some, List, ℕ, ◌∷◌, take, drop}
use Rattle.nquads_text.specs.Lines.{line_end, after_end}
use Rattle.nquads_text.specs.Reads.{lines_of}
use Rattle.nquads_text.proofs.Lines.{lines_at, lines_last}
use Rattle.nquads_text.proofs.text.next_line.Goals as goal

pub returns-in-None-clause-lines : goal.returns-in-None-clause-lines
returns-in-None-clause-lines c = lines_last c.args.bytes.now c.requires (sym c.line_end.ensures.place ∙ c.in-None.is)

pub returns-in-Some-clause-lines : goal.returns-in-Some-clause-lines
returns-in-Some-clause-lines c =
    let at : line_end 0 c.args.bytes.now ≡ Some c.in-Some.n = sym c.line_end.ensures.place ∙ c.in-Some.is in
    let lines = lines_at c.args.bytes.now c.in-Some.n at in
    let after : c.after_end.result.now ≡ after_end (drop c.in-Some.n c.args.bytes.now) = c.after_end.ensures.rest ∙ ap after_end c.split_at.ensures.back in
    let line : c.split_at.result.0.now ≡ take c.in-Some.n c.args.bytes.now = c.split_at.ensures.front in
    lines ∙ ap (λ (l : List ℕ). l ∷ lines_of (after_end (drop c.in-Some.n c.args.bytes.now))) (sym line) ∙ ap (λ (l : List ℕ). c.split_at.result.0.now ∷ lines_of l) (sym after)
