use Rattle.std.proofs.Common.{refl, arith}
use Rattle.std.specs.Prelude.{codes}
use Rattle.rdf_terms.specs.declared.term.Term.TheVariants.{Blank}
use Rattle.template_fill.specs.Metadata.{form_quads, graph_at, hydra}
use Rattle.hydra_controls.specs.Facts.{addresses_on, form_of}
use Rattle.hydra_controls.proofs.LineRows.{fixed_line, line_at, template_line}
use Rattle.hydra_controls.proofs.facts.PageFacts.form_line.Goals as goal

pub returns-then-i-eq0 : goal.returns-then-i-eq0
unfolding form_quads
returns-then-i-eq0 c = λ d.
    line_at (form_of c.args.self) c.args.i 0 d _ _ c.if-i-eq0.true refl
    (template_line (graph_at (addresses_on c.args.self)) c.args.self.base.now _ _ _ c.requires.facts.base c.new-template.ensures c.new-nothing.ensures c.line_of.ensures)

pub returns : goal.returns
unfolding form_quads hydra
returns c = λ d.
    line_at (form_of c.args.self) c.args.i 1 d _ _ (omega arith) refl
    (fixed_line (graph_at (addresses_on c.args.self)) (Blank (codes "form")) (hydra (codes "variableRepresentation")) (hydra (codes "ExplicitRepresentation")) _ c.fixed_line.ensures)
