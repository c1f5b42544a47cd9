use Rattle.std.proofs.Common.{refl, ap, ◌∙◌}
use Rattle.rdf_terms.specs.Canon.{canonical_line}
use Rattle.rdf_terms.specs.declared.term.Quad.{Quad}
use Rattle.template_fill.specs.Metadata.{link_quads, version_quads}
use Rattle.hydra_controls.specs.Facts.{previous_quad, version_quad}
use Rattle.hydra_controls.proofs.TableLaws.{previous_first, version_behind, version_first}
use Rattle.hydra_controls.proofs.facts.PageFacts.closing_line.Goals as goal
use Rattle.hydra_controls.proofs.facts.PageFacts.closing_line.Goals.{then-self-gt1+else-i-eq0, else-self-gt1}

pub returns-then-i-eq0 : goal.returns-then-i-eq0
unfolding link_quads
returns-then-i-eq0 c = λ d.
    ap (λ (q : Quad). canonical_line q) (previous_first c.args.self (previous_quad c.args.self) c.args.i d c.if-self-gt1.true c.if-i-eq0.true refl) ∙ c.previous_line.ensures

pub returns : goal.returns
unfolding version_quads
returns c = λ d.
    elim c.if-self-gt1.branch [
      | then-self-gt1+else-i-eq0 w ↦
          ap (λ (q : Quad). canonical_line q) (version_behind c.args.self (version_quad c.args.self) c.args.i d w.if-self-gt1.true w.if-i-eq0.false c.requires refl) ∙ c.version_line.ensures
      | else-self-gt1 w ↦ ap (λ (q : Quad). canonical_line q) (version_first c.args.self (version_quad c.args.self) c.args.i d w.if-self-gt1.false c.requires refl) ∙ c.version_line.ensures
    ]
