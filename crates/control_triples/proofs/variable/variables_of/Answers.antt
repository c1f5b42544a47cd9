use Rattle.control_triples.proofs.Variabled.{variables_in_order, part_has, has_part}
use Rattle.control_triples.proofs.variable.variables_of.Goals as goal

pub slice_bounds-result-count : goal.slice_bounds-result-count
slice_bounds-result-count c =
    variables_in_order c.args.variables.now c.args.mapping.now c.place-from.result c.place-to.result c.place-from.ensures.within c.place-to.ensures.within
    c.place-from.ensures.before c.place-from.ensures.behind c.place-to.ensures.before c.place-to.ensures.behind

pub slice_bounds-result-start : goal.slice_bounds-result-start
slice_bounds-result-start c =
    variables_in_order c.args.variables.now c.args.mapping.now c.place-from.result c.place-to.result c.place-from.ensures.within c.place-to.ensures.within
    c.place-from.ensures.before c.place-from.ensures.behind c.place-to.ensures.before c.place-to.ensures.behind

pub returns : goal.returns
returns c = record {
  members = λ text. (
    part_has c.args.variables.now c.args.mapping.now c.place-from.result c.place-to.result c.place-from.ensures.within c.place-to.ensures.within
        c.place-from.ensures.before c.place-from.ensures.behind c.place-to.ensures.before c.place-to.ensures.behind text,
    has_part c.args.variables.now c.args.mapping.now c.place-from.result c.place-to.result c.place-from.ensures.within c.place-to.ensures.within
        c.place-from.ensures.before c.place-from.ensures.behind c.place-to.ensures.before c.place-to.ensures.behind text,
  );
}
