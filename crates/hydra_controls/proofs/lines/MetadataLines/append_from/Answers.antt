use Rattle.std.proofs.Common.{◌≡◌, List, ◌++◌, drop, subst}
use Rattle.std.specs.Prelude.{OnOk}
use Rattle.rdf_terms.specs.declared.term.Quad.{Quad}
use Rattle.hydra_controls.specs.Lines.{lines_text}
use Rattle.hydra_controls.proofs.lines.MetadataLines.append_from.Goals as goal

pub returns-clause-ok : goal.returns-clause-ok
returns-clause-ok c =
    subst (λ (quads : List Quad). OnOk c.append_from.result (c.append_from.new.out.items ≡ c.args.out.now.items ++ lines_text (drop c.args.place quads))) c.facts.ensures.quads c.append_from.ensures.ok
