use Rattle.std.proofs.Common.{List, ℕ, ◌++◌, ap, sym, ◌∙◌, append_assoc}
use Rattle.std.specs.Prelude.{codes}
use Rattle.hydra_controls.specs.Facts.{page_text}
use Rattle.hydra_controls.specs.LineTexts.{text_of}
use Rattle.hydra_controls.proofs.facts.PageFacts.line_of.Goals as goal

pub returns : goal.returns
returns c =
    ap (λ (l : List ℕ). c.args.opening.now ++ (text_of c.args.subject ++ (text_of c.args.object ++ l)))
    (c.page_then.ensures ∙ sym (append_assoc (page_text c.args.self.first.now c.args.self.fixed c.args.self.number) (codes "#metadata") (codes "> .\n")))
