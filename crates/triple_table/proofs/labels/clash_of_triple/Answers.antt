use Rattle.std.proofs.Common.{[], ◌∷◌}
use Rattle.triple_table.proofs.FirstClash.{both_clashes}
use Rattle.triple_table.proofs.labels.clash_of_triple.Goals as goal

pub returns : goal.returns
returns c =
    rw (c.min-2.ensures, c.min.ensures)
    (both_clashes _ _ (c.args.triple.now.subject ∷ c.args.triple.now.predicate ∷ []) (c.args.triple.now.object ∷ []) _ _
    (both_clashes _ _ (c.args.triple.now.subject ∷ []) (c.args.triple.now.predicate ∷ []) _ _ c.clash_of_term.ensures c.clash_of_term-2.ensures)
    c.clash_of_term-3.ensures)
