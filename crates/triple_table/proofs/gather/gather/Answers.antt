use Rattle.std.proofs.Common.{List, subst, sym}
use Rattle.std.proofs.lemmas.List.{take_all}
use Rattle.rdf_terms.specs.declared.term.Triple.{Triple}
use Rattle.rdf_terms.specs.declared.term.Quad.{Quad}
use Rattle.triple_table.specs.Chosen.{chosen}
use Rattle.triple_table.specs.Ranking.{borrowed_terms, IsGathered}
use Rattle.triple_table.proofs.Gathered.{gathered_none}
use Rattle.triple_table.proofs.Steps.{chosen_more}
use Rattle.triple_table.proofs.gather.gather.Goals as goal

pub loop-quad-init : goal.loop-quad-init
loop-quad-init c = rw (c.new-terms.ensures.items, c.in_ok-triples.ensures.items) gathered_none

pub loop-quad-preserved : goal.loop-quad-preserved
loop-quad-preserved c =
    subst (λ (ts : List Triple). IsGathered ts (borrowed_terms c.push_chosen.new.terms.items) c.push_chosen.new.triples.items)
    (sym (chosen_more c.args.choice.now c.args.quads.now c.loop-quad.quad-index c.quad-item.result c.loop-quad-test.true c.quad-item.is))
    (c.in_ok-push_chosen.ensures (chosen c.args.choice.now _) c.loop-quad.invariant)

pub returns : goal.returns
returns c =
    subst (λ (quads : List Quad). IsGathered (chosen c.args.choice.now quads) (borrowed_terms c.loop-quad.terms.items) c.loop-quad.triples.items) (take_all _ _ c.loop-quad-test.false) c.loop-quad.invariant
