use Rattle.std.proofs.Common.{List, subst}
use Rattle.std.specs.List.Sorted.{IsStrictlySortedBy}
use Rattle.rdf_terms.specs.declared.term.Triple.{Triple}
use Rattle.rdf_terms.specs.Order.{triple_order}
use Rattle.joint_pages.proofs.News.{copied}
use Rattle.joint_pages.proofs.gathering.copy_set.Goals as goal

pub loop-triple-preserved : goal.loop-triple-preserved
loop-triple-preserved c =
    let ordered : IsStrictlySortedBy triple_order c.args.set.now = subst (λ (l : List Triple). IsStrictlySortedBy triple_order l) c.as_set.ensures c.iter-triples.ensures.ordered in
    copied c.loop-triple.copy c.put_copy.new.set c.loop-triple.triple-iterator c.next.new.self c.args.set.now c.in-Some.triple.now
    c.in_ok-put_copy.ensures.put c.in-Some.ensures.steps c.loop-triple.invariant ordered
