use Rattle.std.proofs.Common.{[], ◌∷◌, ◌++◌}
use Rattle.list_laws.proofs.Begins.{begins_on}
use Rattle.rdf_terms.specs.Canon.{canonical_term, canonical_graph}
use Rattle.nquads_text.proofs.Runs.{three_steps, line_is}
use Rattle.nquads_text.proofs.write.push_quad.Goals as goal

pub returns-clause-ok : goal.returns-clause-ok
returns-clause-ok c =
    let s = canonical_term c.args.quad.now.triple.subject in
    let p = canonical_term c.args.quad.now.triple.predicate in
    let o = canonical_term c.args.quad.now.triple.object in
    let g = canonical_graph c.args.quad.now.graph in
    line_is c.push_all.result c.args.out.now.items c.push_all.new.out.items s p o g (32 ∷ 46 ∷ 10 ∷ [])
    (three_steps c.push_all.result c.args.out.now.items c.push_triple.new.out.items c.push_graph.new.out.items c.push_all.new.out.items (s ++ 32 ∷ (p ++ 32 ∷ o)) g (32 ∷ 46 ∷ 10 ∷ []) c.in_ok-push_triple.ensures.ok c.in_ok-push_graph.ensures.ok c.push_all.ensures.ok)

pub returns-in_err-push_graph-clause-front : goal.returns-in_err-push_graph-clause-front
returns-in_err-push_graph-clause-front c = begins_on c.args.out.now.items c.push_triple.new.out.items c.push_graph.new.out.items c.in_ok-push_triple.ensures.front c.in_err-push_graph.ensures.front

pub returns-clause-front : goal.returns-clause-front
returns-clause-front c =
    begins_on c.args.out.now.items c.push_graph.new.out.items c.push_all.new.out.items (begins_on c.args.out.now.items c.push_triple.new.out.items c.push_graph.new.out.items c.in_ok-push_triple.ensures.front c.in_ok-push_graph.ensures.front) c.push_all.ensures.front
