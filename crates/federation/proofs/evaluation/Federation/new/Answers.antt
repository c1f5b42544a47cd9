use Rattle.std.proofs.Common.{◌*◌, List, length, ap, sym, subst, ◌∙◌}
use Rattle.request_plan.specs.Evaluations.{Terms}
use Rattle.plan_laws.specs.JointWorlds.{joint_world}
use Rattle.joint_pages.specs.Gatherings.{GatheringData}
use Rattle.request_plan.specs.Beginnings.{BeginsWith}
use Rattle.bgp_core.specs.declared.pattern.Pattern.{Pattern}
use Rattle.federation.specs.Beginnings.{joint_rows, joint_plan, most_pages}
use Rattle.federation.specs.Federations.{SuitsAll, KeepsAll, KeepsSmall, account_of}
use Rattle.federation.proofs.Beginning.{fresh-of, fresh-suits, fresh-owes, fresh-keeps, fresh-small}
use Rattle.federation.proofs.evaluation.Federation.new.Goals as goal

pub returns-clause-suits : goal.returns-clause-suits
returns-clause-suits c = λ worlds fit.
    let j = c.in_ok-join.join in
    let most = c.most_awaited-most.result in
    let is = c.worlds_together_are_a_world.ensures worlds fit.servers.are_worlds fit.servers.some in
    subst (λ (l : List GatheringData). SuitsAll worlds (fresh-of j l most)) (sym c.new-2.ensures.items) (fresh-suits worlds c.args.query.now j most fit.servers (c.in_ok-join.ensures.begins (joint_world worlds) is fit.forms_are fit.row_by_row))

pub returns-clause-owes : goal.returns-clause-owes
returns-clause-owes c = λ worlds fit.
    let q = c.args.query.now in
    let j = c.in_ok-join.join in
    let most = c.most_awaited-most.result in
    let is = c.worlds_together_are_a_world.ensures worlds fit.servers.are_worlds fit.servers.some in
    subst (λ (l : List GatheringData). BeginsWith (joint_rows worlds q) (joint_plan worlds q) (account_of worlds (fresh-of j l most))) (sym c.new-2.ensures.items) (fresh-owes worlds q j most (c.in_ok-join.ensures.begins (joint_world worlds) is fit.forms_are fit.row_by_row))

pub returns-clause-keeps : goal.returns-clause-keeps
returns-clause-keeps c = λ homes home.
    let terms : Terms = record { homes = homes; width = length c.args.query.now.names } in
    subst (λ (l : List GatheringData). KeepsAll terms (fresh-of c.in_ok-join.join l c.most_awaited-most.result)) (sym c.new-2.ensures.items) (fresh-keeps terms c.in_ok-join.join c.most_awaited-most.result (c.in_ok-join.ensures.keeps homes home) c.in_ok-join.ensures.tickets.1)

pub returns-clause-small : goal.returns-clause-small
returns-clause-small c =
    let patterns = length c.args.query.now.patterns in
    let servers = length c.args.forms in
    subst (λ (l : List GatheringData). KeepsSmall (record { patterns = patterns; window = c.args.window * servers }) (fresh-of c.in_ok-join.join l c.most_awaited-most.result)) (sym c.new-2.ensures.items)
    (fresh-small patterns c.args.window servers c.in_ok-join.join c.most_awaited-most.result c.in_ok-join.ensures.small c.in_ok-join.ensures.longest c.requires.window c.requires.some
    (c.most_awaited-most.ensures ∙ ap (λ (l : List Pattern). most_pages (length l) c.args.window servers) c.patterns.ensures.value))
