use Rattle.std.proofs.Common.{append-nil, sym, ap, ◌∙◌}
use Rattle.plain_answers.proofs.Nested.{some_added, none_added, one_more}
use Rattle.plain_answers.proofs.solve.+extend_all.Goals.{in-Some+in_ok-extend_all, in_default-2}
use Rattle.plain_answers.proofs.solve.+extend_all.Goals as goal

pub loop-triple-preserved : goal.loop-triple-preserved
loop-triple-preserved t c =
    let old = c.loop-triple.out.items in
    one_more (λ s. s.now) _ c.args.triples.now c.loop-triple.triple-index c.triple-item.result c.args.out.now.items old c.match-branch-3.out.items
    c.loop-triple-test.true c.triple-item.is c.loop-triple.invariant (elim c.match-branch-3.branch [
      | in-Some+in_ok-extend_all w ↦ some_added _ w.in-Some.next _ old c.match-branch-3.out.items (sym c.in_ok-next.ensures.value ∙ w.in-Some.is) (ap (λ v. v.items) w.out-is ∙ w.in_ok-extend_all.ensures)
      | in_default-2 w ↦ none_added _ _ old c.match-branch-3.out.items (sym c.in_ok-next.ensures.value ∙ w.in_default-2.is) (ap (λ v. v.items) w.out-is ∙ sym (append-nil old))
    ])
