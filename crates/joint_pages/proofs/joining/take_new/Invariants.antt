use Rattle.std.proofs.Common.{◌≡◌, ◌++◌}
use Rattle.std.specs.Vec.Iter.{into_iter_items}
use Rattle.bgp_core.specs.Solutions.{distinct_after}
use Rattle.joint_pages.specs.Joined.{added}
use Rattle.joint_pages.proofs.joining.take_new.Given as goal

abbrev pub invariant-loop-triple : goal.invariant-loop-triple
invariant-loop-triple l = record {
  triples : l.triples.items ++ distinct_after l.taken (into_iter_items l.triple-iterator) ≡ l.initial.triples.items ++ distinct_after l.initial.taken l.fn.page.items;
  taken : added l.taken (distinct_after l.taken (into_iter_items l.triple-iterator)) ≡ added l.initial.taken (distinct_after l.initial.taken l.fn.page.items);
}
