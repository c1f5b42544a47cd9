use Rattle.std.proofs.Common.{map, ap, ◌∙◌}
use Rattle.std.proofs.lemmas.List.{take_all}
use Rattle.triple_table.specs.Chosen.{chosen}
use Rattle.triple_table.specs.Genid.{skolem_triple}
use Rattle.triple_table.proofs.Steps.{triples_more}
use Rattle.triple_table.proofs.data_set.all_served.Goals as goal

pub loop-quad-preserved : goal.loop-quad-preserved
loop-quad-preserved c =
    triples_more (skolem_triple c.args.authority.now) c.loop-quad.triples.items c.push_served.new.triples.items c.args.choice.now c.args.quads.now c.loop-quad.quad-index c.quad-item.result c.loop-quad-test.true c.quad-item.is
    c.in_ok-push_served.ensures c.loop-quad.invariant

pub returns : goal.returns
returns c = c.loop-quad.invariant ∙ ap (λ qs. map (skolem_triple c.args.authority.now) (chosen c.args.choice.now qs)) (take_all _ _ c.loop-quad-test.false)
