-- The ranks of the served terms are those of the places of the triples.
use Rattle.std.proofs.Common.{◌≡◌, List, All, map, sym, subst}
use Rattle.std.proofs.lemmas.Result.{IfOk-from_err}
use Rattle.rdf_terms.specs.declared.term.Term.{Term}
use Rattle.triple_table.specs.declared.ids.IdTriple.{IdTriple}
use Rattle.triple_table.specs.declared.gather.Places.{Places}
use Rattle.triple_table.specs.Chosen.{chosen}
use Rattle.triple_table.specs.Genid.{skolem_triple}
use Rattle.triple_table.specs.Ranking.{borrowed_terms, HasRanks}
use Rattle.triple_table.specs.Stored.{triple_at, IsIdTriple, IsRanking}
use Rattle.triple_table.proofs.Ranked.{all_ids, all_ranks, ids_moved, if_ok_both, is_ranking, served_ranked, ranks_within, triples_are}
use Rattle.triple_table.proofs.build.ranked_triples.Goals as goal

pub returns-in_err-gathered-clause-ranking : goal.returns-in_err-gathered-clause-ranking
returns-in_err-gathered-clause-ranking c = IfOk-from_err _ _ c.from_residual.ensures.0

pub returns-in_err-gathered-clause-few : goal.returns-in_err-gathered-clause-few
returns-in_err-gathered-clause-few c = IfOk-from_err _ _ c.from_residual.ensures.0

pub returns-in_err-gathered-clause-ids : goal.returns-in_err-gathered-clause-ids
returns-in_err-gathered-clause-ids c = IfOk-from_err _ _ c.from_residual.ensures.0

pub returns-in_err-gathered-clause-triples : goal.returns-in_err-gathered-clause-triples
returns-in_err-gathered-clause-triples c = IfOk-from_err _ _ c.from_residual.ensures.0

pub genid_terms-requires : goal.genid_terms-requires
genid_terms-requires c = c.requires

pub returns-in_err-genids-clause-ranking : goal.returns-in_err-genids-clause-ranking
returns-in_err-genids-clause-ranking c = IfOk-from_err _ _ c.from_residual-in_err-genids.ensures.0

pub returns-in_err-genids-clause-few : goal.returns-in_err-genids-clause-few
returns-in_err-genids-clause-few c = IfOk-from_err _ _ c.from_residual-in_err-genids.ensures.0

pub returns-in_err-genids-clause-ids : goal.returns-in_err-genids-clause-ids
returns-in_err-genids-clause-ids c = IfOk-from_err _ _ c.from_residual-in_err-genids.ensures.0

pub returns-in_err-genids-clause-triples : goal.returns-in_err-genids-clause-triples
returns-in_err-genids-clause-triples c = IfOk-from_err _ _ c.from_residual-in_err-genids.ensures.0

pub returns-in_err-served-clause-ranking : goal.returns-in_err-served-clause-ranking
returns-in_err-served-clause-ranking c = IfOk-from_err _ _ c.from_residual-in_err-served.ensures.0

pub returns-in_err-served-clause-few : goal.returns-in_err-served-clause-few
returns-in_err-served-clause-few c = IfOk-from_err _ _ c.from_residual-in_err-served.ensures.0

pub returns-in_err-served-clause-ids : goal.returns-in_err-served-clause-ids
returns-in_err-served-clause-ids c = IfOk-from_err _ _ c.from_residual-in_err-served.ensures.0

pub returns-in_err-served-clause-triples : goal.returns-in_err-served-clause-triples
returns-in_err-served-clause-triples c = IfOk-from_err _ _ c.from_residual-in_err-served.ensures.0

pub returns-in_err-ranked-clause-ranking : goal.returns-in_err-ranked-clause-ranking
returns-in_err-ranked-clause-ranking c = IfOk-from_err _ _ c.from_residual-in_err-ranked.ensures.0

pub returns-in_err-ranked-clause-few : goal.returns-in_err-ranked-clause-few
returns-in_err-ranked-clause-few c = IfOk-from_err _ _ c.from_residual-in_err-ranked.ensures.0

pub returns-in_err-ranked-clause-ids : goal.returns-in_err-ranked-clause-ids
returns-in_err-ranked-clause-ids c = IfOk-from_err _ _ c.from_residual-in_err-ranked.ensures.0

pub returns-in_err-ranked-clause-triples : goal.returns-in_err-ranked-clause-triples
returns-in_err-ranked-clause-triples c = IfOk-from_err _ _ c.from_residual-in_err-ranked.ensures.0

pub by_ranks-requires-clause-places : goal.by_ranks-requires-clause-places
by_ranks-requires-clause-places c =
    let r = served_ranked c.args.authority.now c.in_ok-gathered.gathered.terms.items c.as_slice.result.now c.as_slice-2.result.now c.in_ok-served.served.items c.as_slice-4.result.now c.in_ok-genids.genids.items c.as_slice-3.result.now
    (borrowed_terms c.in_ok-ranked.ranked.terms.items) c.in_ok-ranked.ranked.ranks.items c.in_ok-genids.ensures c.as_slice.ensures.value c.as_slice-2.ensures.value c.as_slice-3.ensures.value c.in_ok-served.ensures c.as_slice-4.ensures.value c.in_ok-ranked.ensures in
    subst (λ (ps : List Places). All (HasRanks c.in_ok-ranked.ranked.ranks.items) ps) (sym c.as_slice-5.ensures.value)
    (all_ranks c.args.authority.now (chosen c.args.choice.now c.args.quads.now) (borrowed_terms c.in_ok-gathered.gathered.terms.items) (borrowed_terms c.in_ok-ranked.ranked.terms.items) c.in_ok-gathered.gathered.triples.items c.in_ok-ranked.ranked.ranks.items c.in_ok-gathered.ensures r)

pub by_ranks-requires-clause-ranks : goal.by_ranks-requires-clause-ranks
by_ranks-requires-clause-ranks c =
    let r = served_ranked c.args.authority.now c.in_ok-gathered.gathered.terms.items c.as_slice.result.now c.as_slice-2.result.now c.in_ok-served.served.items c.as_slice-4.result.now c.in_ok-genids.genids.items c.as_slice-3.result.now
    (borrowed_terms c.in_ok-ranked.ranked.terms.items) c.in_ok-ranked.ranked.ranks.items c.in_ok-genids.ensures c.as_slice.ensures.value c.as_slice-2.ensures.value c.as_slice-3.ensures.value c.in_ok-served.ensures c.as_slice-4.ensures.value c.in_ok-ranked.ensures in
    ranks_within c.args.authority.now (chosen c.args.choice.now c.args.quads.now) (borrowed_terms c.in_ok-gathered.gathered.terms.items) (borrowed_terms c.in_ok-ranked.ranked.terms.items) c.in_ok-gathered.gathered.triples.items c.in_ok-ranked.ranked.ranks.items c.in_ok-gathered.ensures r

pub returns-clause-ranking : goal.returns-clause-ranking
returns-clause-ranking c =
    let r = served_ranked c.args.authority.now c.in_ok-gathered.gathered.terms.items c.as_slice.result.now c.as_slice-2.result.now c.in_ok-served.served.items c.as_slice-4.result.now c.in_ok-genids.genids.items c.as_slice-3.result.now
    (borrowed_terms c.in_ok-ranked.ranked.terms.items) c.in_ok-ranked.ranked.ranks.items c.in_ok-genids.ensures c.as_slice.ensures.value c.as_slice-2.ensures.value c.as_slice-3.ensures.value c.in_ok-served.ensures c.as_slice-4.ensures.value c.in_ok-ranked.ensures in
    if_ok_both c.by_ranks.result _ _ _ c.by_ranks.ensures.terms c.by_ranks.ensures.few (λ parts same few. subst (λ (ts : List Term). IsRanking (map (skolem_triple c.args.authority.now) (chosen c.args.choice.now c.args.quads.now)) ts) (sym same) (is_ranking c.args.authority.now (chosen c.args.choice.now c.args.quads.now) (borrowed_terms c.in_ok-gathered.gathered.terms.items) (borrowed_terms c.in_ok-ranked.ranked.terms.items) c.in_ok-gathered.gathered.triples.items c.in_ok-ranked.ranked.ranks.items c.in_ok-gathered.ensures r))

pub returns-clause-few : goal.returns-clause-few
returns-clause-few c = c.by_ranks.ensures.few

pub returns-clause-ids : goal.returns-clause-ids
returns-clause-ids c =
    let r = served_ranked c.args.authority.now c.in_ok-gathered.gathered.terms.items c.as_slice.result.now c.as_slice-2.result.now c.in_ok-served.served.items c.as_slice-4.result.now c.in_ok-genids.genids.items c.as_slice-3.result.now
    (borrowed_terms c.in_ok-ranked.ranked.terms.items) c.in_ok-ranked.ranked.ranks.items c.in_ok-genids.ensures c.as_slice.ensures.value c.as_slice-2.ensures.value c.as_slice-3.ensures.value c.in_ok-served.ensures c.as_slice-4.ensures.value c.in_ok-ranked.ensures in
    if_ok_both c.by_ranks.result _ _ _ c.by_ranks.ensures.terms c.by_ranks.ensures.ids (λ parts same ids. ids_moved (λ (ts : List Term) (ids : List IdTriple). All (IsIdTriple ts) ids) parts.0 (borrowed_terms c.in_ok-ranked.ranked.terms.items) parts.1.items c.in_ok-ranked.ranked.ranks.items c.in_ok-gathered.gathered.triples.items c.as_slice-5.result.now
    same ids c.as_slice-5.ensures.value (all_ids c.args.authority.now (chosen c.args.choice.now c.args.quads.now) (borrowed_terms c.in_ok-gathered.gathered.terms.items) (borrowed_terms c.in_ok-ranked.ranked.terms.items) c.in_ok-gathered.gathered.triples.items c.in_ok-ranked.ranked.ranks.items c.in_ok-gathered.ensures r))

pub returns-clause-triples : goal.returns-clause-triples
returns-clause-triples c =
    let r = served_ranked c.args.authority.now c.in_ok-gathered.gathered.terms.items c.as_slice.result.now c.as_slice-2.result.now c.in_ok-served.served.items c.as_slice-4.result.now c.in_ok-genids.genids.items c.as_slice-3.result.now
    (borrowed_terms c.in_ok-ranked.ranked.terms.items) c.in_ok-ranked.ranked.ranks.items c.in_ok-genids.ensures c.as_slice.ensures.value c.as_slice-2.ensures.value c.as_slice-3.ensures.value c.in_ok-served.ensures c.as_slice-4.ensures.value c.in_ok-ranked.ensures in
    if_ok_both c.by_ranks.result _ _ _ c.by_ranks.ensures.terms c.by_ranks.ensures.ids (λ parts same ids. ids_moved (λ (ts : List Term) (ids : List IdTriple). map (triple_at ts) ids ≡ map (skolem_triple c.args.authority.now) (chosen c.args.choice.now c.args.quads.now)) parts.0 (borrowed_terms c.in_ok-ranked.ranked.terms.items) parts.1.items c.in_ok-ranked.ranked.ranks.items c.in_ok-gathered.gathered.triples.items c.as_slice-5.result.now
    same ids c.as_slice-5.ensures.value (triples_are c.args.authority.now (chosen c.args.choice.now c.args.quads.now) (borrowed_terms c.in_ok-gathered.gathered.terms.items) (borrowed_terms c.in_ok-ranked.ranked.terms.items) c.in_ok-gathered.gathered.triples.items c.in_ok-ranked.ranked.ranks.items c.in_ok-gathered.ensures r))

pub returns-clause-too_many : goal.returns-clause-too_many
returns-clause-too_many c = λ e.
    let r = served_ranked c.args.authority.now c.in_ok-gathered.gathered.terms.items c.as_slice.result.now c.as_slice-2.result.now c.in_ok-served.served.items c.as_slice-4.result.now c.in_ok-genids.genids.items c.as_slice-3.result.now
    (borrowed_terms c.in_ok-ranked.ranked.terms.items) c.in_ok-ranked.ranked.ranks.items c.in_ok-genids.ensures c.as_slice.ensures.value c.as_slice-2.ensures.value c.as_slice-3.ensures.value c.in_ok-served.ensures c.as_slice-4.ensures.value c.in_ok-ranked.ensures in
    record {
      terms = borrowed_terms c.in_ok-ranked.ranked.terms.items;
      ranking = is_ranking c.args.authority.now (chosen c.args.choice.now c.args.quads.now) (borrowed_terms c.in_ok-gathered.gathered.terms.items) (borrowed_terms c.in_ok-ranked.ranked.terms.items) c.in_ok-gathered.gathered.triples.items c.in_ok-ranked.ranked.ranks.items c.in_ok-gathered.ensures r;
      passes = c.by_ranks.ensures.too_many e;
    }

pub returns-clause-never : goal.returns-clause-never
returns-clause-never c = c.by_ranks.ensures.never
