-- Sorted and each once, the triples are those that were given.
use Rattle.std.proofs.Common.{ℕ, ◌^◌, ◌<◌, ◌≤◌, length, List, map, sym, subst, arith}
use Rattle.std.proofs.lemmas.List.{length-map}
use Rattle.std.proofs.lemmas.Result.{IfOk-from_err}
use Rattle.rdf_terms.specs.declared.term.Term.{Term}
use Rattle.rdf_terms.specs.Triples.{IsDataSet}
use Rattle.triple_table.specs.declared.ids.IdTriple.{IdTriple}
use Rattle.triple_table.specs.Ranking.{SameMembers}
use Rattle.triple_table.specs.Stored.{IsRanking, triple_at}
use Rattle.triple_table.proofs.Distinct.{data_of, ranking_of, few_ids, more_triples}
use Rattle.triple_table.proofs.Gathered.{same_trans}
use Rattle.triple_table.proofs.build.table_of.Goals as goal

small_terms : (terms : List Term) (most : ℕ) → length terms ≤ most → most < 2 ^ 32 → length terms < 2 ^ 32
small_terms terms most few fits = omega (arith, few, fits)

pub returns-then-len-most-clause-too_many : goal.returns-then-len-most-clause-too_many
returns-then-len-most-clause-too_many c = λ _.
    let l = c.if-len-most.true in let m = length-map c.distinct_ids-ids.result.items (triple_at c.args.terms) in
    more_triples c.args.most (map (triple_at c.args.terms) c.args.triples.items) (map (triple_at c.args.terms) c.distinct_ids-ids.result.items) c.args.terms c.requires.ground c.requires.ranking
    (c.distinct_ids-ids.ensures.ascending c.args.terms (small_terms c.args.terms c.args.most c.requires.few c.ranges.most.fits) c.requires.ranking.ascending c.requires.ids) (c.distinct_ids-ids.ensures.members c.args.terms) (omega (arith, l, m))

pub table_by_ids-requires-clause-ids : goal.table_by_ids-requires-clause-ids
table_by_ids-requires-clause-ids c = rw c.as_slice.ensures.value (c.distinct_ids-ids.ensures.ids c.args.terms c.requires.ids)

pub table_by_ids-requires-clause-data_set : goal.table_by_ids-requires-clause-data_set
table_by_ids-requires-clause-data_set c =
    subst (λ (ids : List IdTriple). IsDataSet (map (triple_at c.args.terms) ids)) (sym c.as_slice.ensures.value)
    (data_of (map (triple_at c.args.terms) c.args.triples.items) (map (triple_at c.args.terms) c.distinct_ids-ids.result.items) c.requires.ground
    (c.distinct_ids-ids.ensures.ascending c.args.terms (small_terms c.args.terms c.args.most c.requires.few c.ranges.most.fits) c.requires.ranking.ascending c.requires.ids) (c.distinct_ids-ids.ensures.members c.args.terms))

pub table_by_ids-requires-clause-ranking : goal.table_by_ids-requires-clause-ranking
table_by_ids-requires-clause-ranking c =
    subst (λ (ids : List IdTriple). IsRanking (map (triple_at c.args.terms) ids) c.args.terms) (sym c.as_slice.ensures.value)
    (ranking_of (map (triple_at c.args.terms) c.args.triples.items) (map (triple_at c.args.terms) c.distinct_ids-ids.result.items) c.args.terms c.requires.ranking (c.distinct_ids-ids.ensures.members c.args.terms))

pub table_by_ids-requires-clause-few : goal.table_by_ids-requires-clause-few
table_by_ids-requires-clause-few c = few_ids c.args.terms c.as_slice.result.now
    (subst (λ (ids : List IdTriple). IsRanking (map (triple_at c.args.terms) ids) c.args.terms) (sym c.as_slice.ensures.value)
    (ranking_of (map (triple_at c.args.terms) c.args.triples.items) (map (triple_at c.args.terms) c.distinct_ids-ids.result.items) c.args.terms c.requires.ranking (c.distinct_ids-ids.ensures.members c.args.terms)))

pub table_by_ids-requires-clause-small : goal.table_by_ids-requires-clause-small
table_by_ids-requires-clause-small c = small_terms c.args.terms c.args.most c.requires.few c.ranges.most.fits

pub returns-in_err-table-clause-members : goal.returns-in_err-table-clause-members
returns-in_err-table-clause-members c = IfOk-from_err _ _ c.from_residual.ensures.0

pub returns-in_err-table-clause-data_set : goal.returns-in_err-table-clause-data_set
returns-in_err-table-clause-data_set c = IfOk-from_err _ _ c.from_residual.ensures.0

pub returns-in_err-table-clause-ranking : goal.returns-in_err-table-clause-ranking
returns-in_err-table-clause-ranking c = IfOk-from_err _ _ c.from_residual.ensures.0

pub returns-in_err-table-clause-few_triples : goal.returns-in_err-table-clause-few_triples
returns-in_err-table-clause-few_triples c = IfOk-from_err _ _ c.from_residual.ensures.0

pub returns-in_err-table-clause-few_terms : goal.returns-in_err-table-clause-few_terms
returns-in_err-table-clause-few_terms c = IfOk-from_err _ _ c.from_residual.ensures.0

pub returns-clause-members : goal.returns-clause-members
returns-clause-members c =
    same_trans _ (map (triple_at c.args.terms) c.as_slice.result.now) (map (triple_at c.args.terms) c.args.triples.items) c.in_ok-table.ensures.members
    (subst (λ (ids : List IdTriple). SameMembers (map (triple_at c.args.terms) ids) (map (triple_at c.args.terms) c.args.triples.items)) (sym c.as_slice.ensures.value) (c.distinct_ids-ids.ensures.members c.args.terms))

pub returns-clause-data_set : goal.returns-clause-data_set
returns-clause-data_set c = c.in_ok-table.ensures.data_set

pub returns-clause-ranking : goal.returns-clause-ranking
returns-clause-ranking c = c.in_ok-table.ensures.ranking
