-- Each turn adds what one term gives.
use Rattle.std.proofs.Common.{Bor, List, ap, ◌∙◌}
use Rattle.std.specs.List.{filter_map}
use Rattle.std.proofs.lemmas.List.{take_all}
use Rattle.std.proofs.lemmas.Result.{IfOk-from_err}
use Rattle.rdf_terms.specs.declared.term.Term.{Term}
use Rattle.triple_table.specs.Ranking.{borrowed_terms, genid_of}
use Rattle.triple_table.proofs.Gathered.{genids_more}
use Rattle.triple_table.proofs.gather.genid_terms.Goals as goal

pub loop-term-init : goal.loop-term-init
loop-term-init c = c.new-genids.ensures.items

pub push_genid-requires : goal.push_genid-requires
push_genid-requires c = c.requires

pub returns-in_err-push_genid : goal.returns-in_err-push_genid
returns-in_err-push_genid c = IfOk-from_err _ _ c.from_residual.ensures.0

pub loop-term-preserved : goal.loop-term-preserved
loop-term-preserved c =
    genids_more c.args.authority.now c.args.terms.now c.loop-term.term-index c.term-item.result c.loop-term.genids.items c.push_genid.new.genids.items c.loop-term-test.true c.term-item.is c.in_ok-push_genid.ensures c.loop-term.invariant

pub returns : goal.returns
returns c = c.loop-term.invariant ∙ ap (λ (terms : List (Bor Term)). filter_map (genid_of c.args.authority.now) (borrowed_terms terms)) (take_all _ _ c.loop-term-test.false)
