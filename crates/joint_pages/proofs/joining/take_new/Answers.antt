use Rattle.std.proofs.Common.{◌++◌, List, ap, ap₂, sym, ◌∙◌}
use Rattle.std.specs.Vec.Iter.{into_iter_items}
use Rattle.rdf_terms.specs.declared.term.Triple.{Triple}
use Rattle.bgp_core.specs.Solutions.{distinct_after}
use Rattle.joint_pages.specs.Joined.{added}
use Rattle.joint_pages.proofs.Takings.{new-step, set-step}
use Rattle.joint_pages.proofs.joining.take_new.Goals as goal

pub loop-triple-preserved : goal.loop-triple-preserved
loop-triple-preserved c =
    let set = c.loop-triple.taken in
    let had = c.loop-triple.triples.items in
    let t = c.in-Some.triple in
    let rest = into_iter_items c.next.new.self in
    let left = c.in-Some.ensures.steps.0 in
    let now = c.in_ok-take_one.ensures in
    record {
      triples = ap₂ (λ (l s : List Triple). l ++ distinct_after s rest) now.triples now.taken ∙ new-step set had t rest ∙ ap (λ (l : List Triple). had ++ distinct_after set l) (sym left) ∙ c.loop-triple.invariant.triples;
      taken = ap (λ (s : List Triple). added s (distinct_after s rest)) now.taken ∙ set-step set t rest ∙ ap (λ (l : List Triple). added set (distinct_after set l)) (sym left) ∙ c.loop-triple.invariant.taken;
    }
