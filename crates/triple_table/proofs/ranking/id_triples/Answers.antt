-- Each turn adds the ids of one triple.
use Rattle.std.proofs.Common.{List, map, ap, ◌∙◌}
use Rattle.std.proofs.lemmas.List.{take_all}
use Rattle.std.proofs.lemmas.List.Elements.{All-get_or}
use Rattle.std.proofs.lemmas.Result.{IfOk-from_err}
use Rattle.triple_table.specs.declared.gather.Places.{Places}
use Rattle.triple_table.specs.Ranking.{HasRanks, ids_of}
use Rattle.triple_table.proofs.Steps.{images_more}
use Rattle.triple_table.proofs.ranking.id_triples.Goals as goal

pub returns-in_err-ids : goal.returns-in_err-ids
returns-in_err-ids c = IfOk-from_err _ _ c.from_residual.ensures.0

pub loop-p-init : goal.loop-p-init
loop-p-init c = c.in_ok-ids.ensures.items

pub id_triple-requires-clause-places : goal.id_triple-requires-clause-places
id_triple-requires-clause-places c = All-get_or (HasRanks c.args.ranks.now) c.args.triples.now c.loop-p.p-index _ c.loop-p-test.true c.requires.places

pub id_triple-requires-clause-small : goal.id_triple-requires-clause-small
id_triple-requires-clause-small c = c.requires.small

pub returns-in_err-push : goal.returns-in_err-push
returns-in_err-push c = IfOk-from_err _ _ c.from_residual-in_err-push.ensures.0

pub loop-p-preserved : goal.loop-p-preserved
loop-p-preserved c = images_more (ids_of c.args.ranks.now) c.args.triples.now c.loop-p.p-index _ c.loop-p.ids.items c.push.new.self.items c.id_triple.result c.loop-p-test.true c.id_triple.ensures c.loop-p.invariant c.in_ok-push.ensures.items

pub returns : goal.returns
returns c = c.loop-p.invariant ∙ ap (λ (ps : List Places). map (ids_of c.args.ranks.now) ps) (take_all _ _ c.loop-p-test.false)
