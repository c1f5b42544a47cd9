use Rattle.std.proofs.Common.{subst, List}
use Rattle.std.specs.List.Sorted.{IsPermutation}
use Rattle.rdf_terms.specs.declared.term.Triple.{Triple}
use Rattle.triple_table.proofs.ServedData.{is_served}
use Rattle.triple_table.proofs.data_set.served.Goals as goal

pub returns-clause-served : goal.returns-clause-served
returns-clause-served c =
    is_served c.args.authority.now c.args.choice.now c.args.quads.now c.requires.classes _ _
    (subst (λ (xs : List Triple). IsPermutation xs c.sort_unstable.new.self.items) c.in_ok-triples.ensures c.sort_unstable.ensures.permutation)
    c.dedup.ensures.filtered c.sort_unstable.ensures.sorted
