use Rattle.std.proofs.Common.{◌-◌, refl, ap, ◌∙◌}
use Rattle.rdf_terms.specs.Canon.{canonical_line}
use Rattle.rdf_terms.specs.declared.term.Quad.{Quad}
use Rattle.std.specs.Prelude.{slice_index_or}
use Rattle.template_fill.specs.Metadata.{link_quads}
use Rattle.hydra_controls.specs.Facts.{closing_of, next_quad}
use Rattle.hydra_controls.proofs.TableLaws.{behind_next, behind_next_within, next_first, without_next, without_next_within}
use Rattle.hydra_controls.proofs.facts.PageFacts.link_line.Goals as goal

pub returns-then-i-eq0 : goal.returns-then-i-eq0
unfolding link_quads
returns-then-i-eq0 c = λ d. ap (λ (q : Quad). canonical_line q) (next_first c.args.self (next_quad c.args.self) c.args.i d c.if-self.true c.if-i-eq0.true refl) ∙ c.next_line.ensures

pub closing_line-requires : goal.closing_line-requires
closing_line-requires c = behind_next_within c.args.self c.args.i c.if-self.true c.if-i-eq0.false c.requires

pub returns-then-self : goal.returns-then-self
returns-then-self c = λ d.
    ap (λ (q : Quad). canonical_line q) (behind_next c.args.self (slice_index_or (closing_of c.args.self) (c.args.i - 1) d) c.args.i d c.if-self.true c.if-i-eq0.false refl) ∙ c.closing_line.ensures d

pub closing_line-requires-2 : goal.closing_line-requires-2
closing_line-requires-2 c = without_next_within c.args.self c.args.i c.if-self.false c.requires

pub returns : goal.returns
returns c = λ d. ap (λ (q : Quad). canonical_line q) (without_next c.args.self (slice_index_or (closing_of c.args.self) c.args.i d) c.args.i d c.if-self.false refl) ∙ c.closing_line-2.ensures d
