-- The command has its words where each of them is there, and else there is none.
use Rattle.std.proofs.Common.{◌∙◌, ap}
use Rattle.std.specs.Option.{option_map}
use Rattle.command_words.specs.Apps.{found_in}
use Rattle.command_words.specs.CommandViews.{command_view}
use Rattle.command_words.proofs.Chains.{local_as, local_no_choice, local_no_client, local_no_fail, local_no_name, local_no_page, local_no_query, local_no_seed}
use Rattle.command_words.proofs.from.local_with.Goals as goal

pub returns-in_err-name : goal.returns-in_err-name
returns-in_err-name c = ap (λ o. option_map command_view o) c.from_residual.ensures ∙ local_no_name (found_in c.args.matches.now) c.args.choice c.args.client c.in_err-name.ensures

pub returns-in_err-query : goal.returns-in_err-query
returns-in_err-query c = ap (λ o. option_map command_view o) c.from_residual-in_err-query.ensures ∙ local_no_query (found_in c.args.matches.now) c.args.choice c.args.client c.in_ok-name.name.now c.in_ok-name.ensures c.in_err-query.ensures

pub returns-in_err-choice : goal.returns-in_err-choice
returns-in_err-choice c = ap (λ o. option_map command_view o) c.from_residual-in_err-choice.ensures ∙ local_no_choice (found_in c.args.matches.now) c.args.choice c.args.client c.in_ok-name.name.now c.in_ok-query.query.now c.in_ok-name.ensures c.in_ok-query.ensures c.in_err-choice.was

pub returns-in_err-client : goal.returns-in_err-client
returns-in_err-client c = ap (λ o. option_map command_view o) c.from_residual-in_err-client.ensures ∙ local_no_client (found_in c.args.matches.now) c.args.choice c.args.client c.in_ok-name.name.now c.in_ok-query.query.now c.in_ok-name.ensures c.in_ok-query.ensures c.in_ok-choice.choice c.in_ok-choice.was c.in_err-client.was

pub returns-in_err-page : goal.returns-in_err-page
returns-in_err-page c = ap (λ o. option_map command_view o) c.from_residual-in_err-page.ensures ∙ local_no_page (found_in c.args.matches.now) c.args.choice c.args.client c.in_ok-name.name.now c.in_ok-query.query.now c.in_ok-name.ensures c.in_ok-query.ensures c.in_ok-choice.choice c.in_ok-client.client c.in_ok-choice.was c.in_ok-client.was c.in_err-page.ensures

pub returns-in_err-seed : goal.returns-in_err-seed
returns-in_err-seed c = ap (λ o. option_map command_view o) c.from_residual-in_err-seed.ensures ∙ local_no_seed (found_in c.args.matches.now) c.args.choice c.args.client c.in_ok-name.name.now c.in_ok-query.query.now c.in_ok-name.ensures c.in_ok-query.ensures c.in_ok-choice.choice c.in_ok-client.client c.in_ok-choice.was c.in_ok-client.was c.in_ok-page.page c.in_ok-page.ensures c.in_err-seed.ensures

pub returns-in_err-fail_every : goal.returns-in_err-fail_every
returns-in_err-fail_every c = ap (λ o. option_map command_view o) c.from_residual-in_err-fail_every.ensures ∙ local_no_fail (found_in c.args.matches.now) c.args.choice c.args.client c.in_ok-name.name.now c.in_ok-query.query.now c.in_ok-name.ensures c.in_ok-query.ensures c.in_ok-choice.choice c.in_ok-client.client c.in_ok-choice.was c.in_ok-client.was c.in_ok-page.page c.in_ok-seed.seed c.in_ok-page.ensures c.in_ok-seed.ensures c.in_err-fail_every.ensures.value

pub returns : goal.returns
returns c = local_as (found_in c.args.matches.now) c.args.choice c.args.client c.in_ok-name.name.now c.in_ok-query.query.now c.in_ok-name.ensures c.in_ok-query.ensures c.in_ok-choice.choice c.in_ok-client.client c.in_ok-choice.was c.in_ok-client.was c.in_ok-page.page c.in_ok-seed.seed c.in_ok-page.ensures c.in_ok-seed.ensures c.in_ok-fail_every.fail_every c.in_ok-fail_every.ensures.value
