use Rattle.std.proofs.Common.{ℕ, ◌<◌, List, All, length, map, ap, sym, subst, ◌∙◌, arith}
use Rattle.std.specs.Borrow.{Bor}
use Rattle.std.proofs.lemmas.List.{length-map}
use Rattle.std.proofs.lemmas.List.Elements.{All-weaker}
use Rattle.triple_table.specs.Ranking.{borrowed_terms, ids_of, HasRanks}
use Rattle.triple_table.proofs.Ranked.{few_copies}
use Rattle.triple_table.proofs.build.by_ranks.Goals as goal

pub returns-then-len-most-clause-too_many : goal.returns-then-len-most-clause-too_many
returns-then-len-most-clause-too_many c = λ _.
    let l = c.if-len-most.true in let ok = c.args.ranked.now.terms.ok in let m = length-map c.args.ranked.now.terms.items (λ (t : Bor _). t.now) in omega (arith, l, ok, m)

pub id_triples-requires-clause-places : goal.id_triples-requires-clause-places
id_triples-requires-clause-places c = subst (λ (rs : List ℕ). All (HasRanks rs) c.args.triples.now) (sym c.as_slice.ensures.value) c.requires.places

pub id_triples-requires-clause-small : goal.id_triples-requires-clause-small
id_triples-requires-clause-small c =
    let l = c.if-len-most.false in let ok = c.args.ranked.now.terms.ok in let m = length-map c.args.ranked.now.terms.items (λ (t : Bor _). t.now) in let fits = c.ranges.most.fits in
    subst (λ (rs : List ℕ). All (λ rank. rank < 4294967296) rs) (sym c.as_slice.ensures.value)
    (All-weaker (λ rank. rank < length (borrowed_terms c.args.ranked.now.terms.items)) (λ rank. rank < 4294967296) (λ rank h. omega (arith, h, l, ok, m, fits)) c.args.ranked.now.ranks.items c.requires.ranks)

pub returns-clause-terms : goal.returns-clause-terms
returns-clause-terms c = c.in_ok-terms.ensures ∙ ap borrowed_terms c.as_slice-2.ensures.value

pub returns-clause-few : goal.returns-clause-few
returns-clause-few c =
    few_copies c.in_ok-terms.terms c.as_slice-2.result.now c.args.ranked.now.terms.items c.len.result c.args.most c.in_ok-terms.ensures c.as_slice-2.ensures.value (c.len.ensures ∙ c.args.ranked.now.terms.ok.0) c.if-len-most.false

pub returns-clause-ids : goal.returns-clause-ids
returns-clause-ids c = c.in_ok-ids.ensures ∙ ap (λ (rs : List ℕ). map (ids_of rs) c.args.triples.now) c.as_slice.ensures.value
