use Rattle.control_triples.proofs.Ranged.{range_has, has_range, range_ascends, range_in_order}
use Rattle.control_triples.proofs.controls.range_of.Goals as goal

pub returns-clause-ascending : goal.returns-clause-ascending
returns-clause-ascending c =
    range_ascends c.args.triples.now c.args.subject.now c.args.predicate.now c.requires c.place-from.result c.place-to.result c.place-from.ensures.within c.place-to.ensures.within
    c.place-from.ensures.before c.place-from.ensures.behind c.place-to.ensures.before c.place-to.ensures.behind

pub returns-clause-members : goal.returns-clause-members
returns-clause-members c = λ object. (
  range_has c.args.triples.now c.args.subject.now c.args.predicate.now c.requires c.place-from.result c.place-to.result c.place-from.ensures.within c.place-to.ensures.within
      c.place-from.ensures.before c.place-from.ensures.behind c.place-to.ensures.before c.place-to.ensures.behind object,
  has_range c.args.triples.now c.args.subject.now c.args.predicate.now c.requires c.place-from.result c.place-to.result c.place-from.ensures.within c.place-to.ensures.within
      c.place-from.ensures.before c.place-from.ensures.behind c.place-to.ensures.before c.place-to.ensures.behind object,
)

pub slice_bounds-result-count : goal.slice_bounds-result-count
slice_bounds-result-count c =
    range_in_order c.args.triples.now c.args.subject.now c.args.predicate.now c.requires c.place-from.result c.place-to.result c.place-from.ensures.within c.place-to.ensures.within
    c.place-from.ensures.before c.place-from.ensures.behind c.place-to.ensures.before c.place-to.ensures.behind

pub slice_bounds-result-start : goal.slice_bounds-result-start
slice_bounds-result-start c =
    range_in_order c.args.triples.now c.args.subject.now c.args.predicate.now c.requires c.place-from.result c.place-to.result c.place-from.ensures.within c.place-to.ensures.within
    c.place-from.ensures.before c.place-from.ensures.behind c.place-to.ensures.before c.place-to.ensures.behind
