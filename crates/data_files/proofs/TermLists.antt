-- A list of terms in strict order is told by its members.
use Rattle.std.proofs.Common.{◌≡◌, List}
use Rattle.list_laws.proofs.Told.{one_list}
use Rattle.rdf_terms.specs.declared.term.Term.{Term}
use Rattle.rdf_terms.specs.declared.term.Triple.{Triple}
use Rattle.rdf_terms.specs.OrderLaws.{term_total}
use Rattle.triple_table.specs.Stored.{IsRanking}

-- the ranking of triples is one list
pub ranking_one : (triples : List Triple) (xs ys : List Term) → IsRanking triples xs → IsRanking triples ys → xs ≡ ys
ranking_one triples xs ys f g =
    one_list term_total xs ys f.ascending g.ascending (λ t h. (g.members t).1 ((f.members t).0 h)) (λ t h. (f.members t).1 ((g.members t).0 h))
