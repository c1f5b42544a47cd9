use Rattle.std.proofs.Common.{[], ◌∷◌, refl, arith}
use Rattle.std.specs.Prelude.{codes}
use Rattle.rdf_terms.specs.declared.term.Term.TheVariants.{Iri}
use Rattle.tpf_base.specs.Decimals.{decimal_text}
use Rattle.template_fill.specs.Metadata.{count_quads, graph_at, hydra, integer, void}
use Rattle.hydra_controls.specs.Facts.{addresses_on, counts_of}
use Rattle.hydra_controls.proofs.LineRows.{count_stands, iri_line, iri_stands, line_at}
use Rattle.hydra_controls.proofs.facts.PageFacts.count_line.Goals as goal

pub returns-then-i-eq0 : goal.returns-then-i-eq0
unfolding count_quads void
returns-then-i-eq0 c = λ d.
    let graph = graph_at (addresses_on c.args.self) in
    let page = (addresses_on c.args.self).page in
    let first = (addresses_on c.args.self).first in
    line_at (counts_of c.args.self) c.args.i 0 d _ _ c.if-i-eq0.true refl
    (iri_line graph first (60 ∷ []) page (62 ∷ []) (void (codes "subset")) (Iri page) _ _ _ (iri_stands page) c.page_then-whole.ensures c.page_then-part.ensures c.line_of.ensures)

pub returns-then-i-eq1 : goal.returns-then-i-eq1
unfolding count_quads hydra
returns-then-i-eq1 c = λ d.
    let graph = graph_at (addresses_on c.args.self) in
    let page = (addresses_on c.args.self).page in
    let count = c.args.self.count in
    line_at (counts_of c.args.self) c.args.i 1 d _ _ c.if-i-eq1.true refl
    (iri_line graph page (34 ∷ []) (decimal_text count) (codes "\"^^<http://www.w3.org/2001/XMLSchema#integer>") (hydra (codes "totalItems")) (integer count) _ _ _ (count_stands count)
    c.page_then-page.ensures c.numbered-items.ensures c.line_of-then-i-eq1.ensures)

pub returns-then-i-eq2 : goal.returns-then-i-eq2
unfolding count_quads void
returns-then-i-eq2 c = λ d.
    let graph = graph_at (addresses_on c.args.self) in
    let page = (addresses_on c.args.self).page in
    let count = c.args.self.count in
    line_at (counts_of c.args.self) c.args.i 2 d _ _ c.if-i-eq2.true refl
    (iri_line graph page (34 ∷ []) (decimal_text count) (codes "\"^^<http://www.w3.org/2001/XMLSchema#integer>") (void (codes "triples")) (integer count) _ _ _ (count_stands count)
    c.page_then-fragment.ensures c.numbered-triples.ensures c.line_of-then-i-eq2.ensures)

pub returns : goal.returns
unfolding count_quads hydra
returns c = λ d.
    let graph = graph_at (addresses_on c.args.self) in
    let page = (addresses_on c.args.self).page in
    let first = (addresses_on c.args.self).first in
    line_at (counts_of c.args.self) c.args.i 3 d _ _ (omega arith) refl
    (iri_line graph page (60 ∷ []) first (62 ∷ []) (hydra (codes "first")) (Iri first) _ _ _ (iri_stands first) c.page_then-later.ensures c.page_then-first.ensures c.line_of-2.ensures)
