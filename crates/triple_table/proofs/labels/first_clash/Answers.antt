use Rattle.std.proofs.Common.{subst, sym}
use Rattle.std.proofs.lemmas.List.{length-map, take_all}
use Rattle.triple_table.proofs.FirstClash.{no_terms, both_clashes}
use Rattle.triple_table.proofs.Steps.{terms_more}
use Rattle.triple_table.specs.Chosen.{chosen}
use Rattle.triple_table.specs.Served.{terms_of}
use Rattle.triple_table.specs.Labels.{texts, IsFirstClash}
use Rattle.triple_table.proofs.labels.first_clash.Goals as goal

pub loop-quad-init : goal.loop-quad-init
loop-quad-init c = no_terms _ _ _ (sym (length-map _ _))

pub loop-quad-preserved : goal.loop-quad-preserved
loop-quad-preserved c =
    rw (c.min-first.ensures, terms_more c.args.choice.now c.args.quads.now c.loop-quad.quad-index c.quad-item.result c.loop-quad-test.true c.quad-item.is)
    (both_clashes _ _ _ _ _ _ c.loop-quad.invariant c.clash_of_quad.ensures)

pub returns : goal.returns
returns c =
    subst (λ quads. IsFirstClash c.args.authority.now (texts c.args.labels.now) (terms_of (chosen c.args.choice.now quads)) c.loop-quad.first)
    (take_all _ _ c.loop-quad-test.false) c.loop-quad.invariant
