use Rattle.std.proofs.Common.{[], ◌∷◌, ◌++◌, refl, arith}
use Rattle.std.specs.Prelude.{codes}
use Rattle.rdf_terms.specs.declared.term.Term.TheVariants.{Blank, Iri}
use Rattle.template_fill.specs.Metadata.{foaf, graph_at, hydra, topic_quads, void}
use Rattle.hydra_controls.specs.Facts.{addresses_on, topic_of}
use Rattle.hydra_controls.proofs.LineRows.{behind_name, iri_line, iri_stands, line_at}
use Rattle.hydra_controls.proofs.facts.PageFacts.topic_line.Goals as goal

pub returns-then-i-eq0 : goal.returns-then-i-eq0
unfolding topic_quads foaf
returns-then-i-eq0 c = λ d.
    let graph = graph_at (addresses_on c.args.self) in
    let page = (addresses_on c.args.self).page in
    line_at (topic_of c.args.self) c.args.i 0 d _ _ c.if-i-eq0.true refl
    (iri_line graph graph (60 ∷ []) page (62 ∷ []) (foaf (codes "primaryTopic")) (Iri page) _ _ _ (iri_stands page)
    (behind_name page (codes "#metadata") (foaf (codes "primaryTopic")) (60 ∷ []) _ c.page_then-graph.ensures) c.page_then-page.ensures c.line_of.ensures)

pub returns-then-i-eq1 : goal.returns-then-i-eq1
unfolding topic_quads void
returns-then-i-eq1 c = λ d.
    let graph = graph_at (addresses_on c.args.self) in
    let base = c.args.self.base.now in
    let first = (addresses_on c.args.self).first in
    line_at (topic_of c.args.self) c.args.i 1 d _ _ c.if-i-eq1.true refl
    (iri_line graph (base ++ codes "#dataset") (60 ∷ []) first (62 ∷ []) (void (codes "subset")) (Iri first) _ _ _ (iri_stands first)
    (behind_name base (codes "#dataset") (void (codes "subset")) (60 ∷ []) _ c.new-data_set.ensures) c.page_then-first.ensures c.line_of-then-i-eq1.ensures)

pub returns : goal.returns
unfolding topic_quads hydra
returns c = λ d.
    let graph = graph_at (addresses_on c.args.self) in
    let base = c.args.self.base.now in
    line_at (topic_of c.args.self) c.args.i 2 d _ _ (omega arith) refl
    (iri_line graph (base ++ codes "#dataset") (codes "_:form") [] [] (hydra (codes "search")) (Blank (codes "form")) _ _ _ refl
    (behind_name base (codes "#dataset") (hydra (codes "search")) (codes "_:form") _ c.new-searched.ensures) c.new-form.ensures c.line_of-2.ensures)
