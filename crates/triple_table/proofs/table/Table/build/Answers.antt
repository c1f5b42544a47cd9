-- The table is that of the chosen triples as they are served.
use Rattle.std.proofs.Common.{List, ◌≡◌, map, ap, subst, sym, Err}
use Rattle.std.specs.List.{Contains}
use Rattle.std.specs.Result.{IsErrOf}
use Rattle.std.proofs.lemmas.Result.{IfOk-from_err, err_from_is_err_and}
use Rattle.rdf_terms.specs.declared.term.Triple.{Triple}
use Rattle.triple_table.specs.declared.data_set.BuildFault.{BuildFault}
use Rattle.triple_table.specs.Chosen.{chosen}
use Rattle.triple_table.specs.Genid.{skolem_triple}
use Rattle.triple_table.specs.Stored.{IsRanking, triple_at, triples_in}
use Rattle.triple_table.proofs.Distinct.{both_ok, more_terms, passes_most, served_by}
use Rattle.triple_table.proofs.ServedData.{served_ground}
use Rattle.triple_table.proofs.table.Table.build.Goals as goal

err_same : {T S : Type 0} (e x : BuildFault) → IsErrOf {T = T} (Err e) x → IsErrOf {T = S} (Err e) x
err_same e x h = let same : e ≡ x = cc in ap (λ y. Err y) same

pub returns-in_err-refuse_clash-clause-served : goal.returns-in_err-refuse_clash-clause-served
returns-in_err-refuse_clash-clause-served c = IfOk-from_err _ _ c.from_residual.ensures.0

pub returns-in_err-refuse_clash-clause-ranking : goal.returns-in_err-refuse_clash-clause-ranking
returns-in_err-refuse_clash-clause-ranking c = IfOk-from_err _ _ c.from_residual.ensures.0

pub returns-in_err-refuse_clash-clause-few_triples : goal.returns-in_err-refuse_clash-clause-few_triples
returns-in_err-refuse_clash-clause-few_triples c = IfOk-from_err _ _ c.from_residual.ensures.0

pub returns-in_err-refuse_clash-clause-few_terms : goal.returns-in_err-refuse_clash-clause-few_terms
returns-in_err-refuse_clash-clause-few_terms c = IfOk-from_err _ _ c.from_residual.ensures.0

pub table_of-requires-clause-ids : goal.table_of-requires-clause-ids
table_of-requires-clause-ids c = c.in_ok-terms.ensures.ids

pub table_of-requires-clause-ground : goal.table_of-requires-clause-ground
table_of-requires-clause-ground c = λ t h.
    served_ground c.args.authority.now c.args.choice.now c.args.quads.now c.requires.classes t (subst (λ (xs : List Triple). Contains xs t) c.in_ok-terms.ensures.triples h)

pub table_of-requires-clause-ranking : goal.table_of-requires-clause-ranking
table_of-requires-clause-ranking c = subst (λ (xs : List Triple). IsRanking xs c.in_ok-terms.terms) (sym c.in_ok-terms.ensures.triples) c.in_ok-terms.ensures.ranking

pub table_of-requires-clause-few : goal.table_of-requires-clause-few
table_of-requires-clause-few c = c.in_ok-terms.ensures.few

pub returns-in_err-terms-clause-served : goal.returns-in_err-terms-clause-served
returns-in_err-terms-clause-served c = IfOk-from_err _ _ c.from_residual-in_err-terms.ensures.0

pub returns-in_err-terms-clause-ranking : goal.returns-in_err-terms-clause-ranking
returns-in_err-terms-clause-ranking c = IfOk-from_err _ _ c.from_residual-in_err-terms.ensures.0

pub returns-in_err-terms-clause-few_triples : goal.returns-in_err-terms-clause-few_triples
returns-in_err-terms-clause-few_triples c = IfOk-from_err _ _ c.from_residual-in_err-terms.ensures.0

pub returns-in_err-terms-clause-few_terms : goal.returns-in_err-terms-clause-few_terms
returns-in_err-terms-clause-few_terms c = IfOk-from_err _ _ c.from_residual-in_err-terms.ensures.0

pub returns-in_err-terms-clause-too_many : goal.returns-in_err-terms-clause-too_many
returns-in_err-terms-clause-too_many c =
    let p = err_from_is_err_and c.from_residual-in_err-terms.result c.from_residual-in_err-terms.ensures.1 in
    rw (p.1, p.2) (λ h.
    let more = c.in_err-terms.ensures.too_many (err_same _ _ h) in
    passes_most c.args.most c.args.authority.now (chosen c.args.choice.now c.args.quads.now) (map (skolem_triple c.args.authority.now) (chosen c.args.choice.now c.args.quads.now)) c.in_ok-refuse_clash.ensures.free
    (λ triples d m. record { data_set = d; members = m })
    (more_terms c.args.most (map (skolem_triple c.args.authority.now) (chosen c.args.choice.now c.args.quads.now)) more.terms (served_ground c.args.authority.now c.args.choice.now c.args.quads.now c.requires.classes) more.ranking more.passes))

pub returns-clause-served : goal.returns-clause-served
returns-clause-served c =
    both_ok c.table_of.result
    (λ table d m. served_by c.args.authority.now (chosen c.args.choice.now c.args.quads.now) (map (triple_at c.in_ok-terms.terms) c.in_ok-terms.triples.items) (triples_in table) c.in_ok-terms.ensures.triples d m)
    c.table_of.ensures.data_set c.table_of.ensures.members

pub returns-clause-ranking : goal.returns-clause-ranking
returns-clause-ranking c = c.table_of.ensures.ranking

pub returns-clause-few_triples : goal.returns-clause-few_triples
returns-clause-few_triples c = c.table_of.ensures.few_triples

pub returns-clause-few_terms : goal.returns-clause-few_terms
returns-clause-few_terms c = c.table_of.ensures.few_terms

pub returns-clause-too_many : goal.returns-clause-too_many
returns-clause-too_many c = λ h.
    passes_most c.args.most c.args.authority.now (chosen c.args.choice.now c.args.quads.now) (map (triple_at c.in_ok-terms.terms) c.in_ok-terms.triples.items) c.in_ok-refuse_clash.ensures.free
    (λ triples d m. served_by c.args.authority.now (chosen c.args.choice.now c.args.quads.now) (map (triple_at c.in_ok-terms.terms) c.in_ok-terms.triples.items) triples c.in_ok-terms.ensures.triples d m)
    (c.table_of.ensures.too_many h)
