-- The command has its words where each of them is there, and else there is none.
use Rattle.std.proofs.Common.{◌∙◌, ap}
use Rattle.std.specs.Option.{option_map}
use Rattle.command_words.specs.Apps.{found_in}
use Rattle.command_words.specs.Commands.{count_of}
use Rattle.command_words.specs.CommandViews.{command_view}
use Rattle.command_words.specs.declared.limits.TheConstants.{MOST_CONNECTIONS}
use Rattle.command_words.proofs.Chains.{serve_as, serve_no_choice, serve_no_name, serve_no_page, serve_no_rows, serve_no_stop}
use Rattle.command_words.proofs.from.serve_with.Goals as goal

pub returns-in_err-name : goal.returns-in_err-name
returns-in_err-name c = ap (λ o. option_map command_view o) c.from_residual.ensures ∙ serve_no_name (found_in c.args.matches.now) c.args.choice c.args.base c.args.reload c.in_err-name.ensures

pub returns-in_err-choice : goal.returns-in_err-choice
returns-in_err-choice c = ap (λ o. option_map command_view o) c.from_residual-in_err-choice.ensures ∙ serve_no_choice (found_in c.args.matches.now) c.args.choice c.args.base c.args.reload c.in_ok-name.name.now c.in_ok-name.ensures c.in_err-choice.was

pub returns-in_err-page : goal.returns-in_err-page
returns-in_err-page c = ap (λ o. option_map command_view o) c.from_residual-in_err-page.ensures ∙ serve_no_page (found_in c.args.matches.now) c.args.choice c.args.base c.args.reload c.in_ok-name.name.now c.in_ok-name.ensures c.in_ok-choice.choice c.in_ok-choice.was c.in_err-page.ensures

pub returns-in_err-stop_after : goal.returns-in_err-stop_after
returns-in_err-stop_after c = ap (λ o. option_map command_view o) c.from_residual-in_err-stop_after.ensures ∙ serve_no_stop (found_in c.args.matches.now) c.args.choice c.args.base c.args.reload c.in_ok-name.name.now c.in_ok-name.ensures c.in_ok-choice.choice c.in_ok-choice.was c.in_ok-page.page c.in_ok-page.ensures (c.in_err-stop_after.ensures ∙ ap (λ o. count_of 1 MOST_CONNECTIONS o) c.value_of-2.ensures)

pub returns-in_err-rows : goal.returns-in_err-rows
returns-in_err-rows c = ap (λ o. option_map command_view o) c.from_residual-in_err-rows.ensures ∙ serve_no_rows (found_in c.args.matches.now) c.args.choice c.args.base c.args.reload c.in_ok-name.name.now c.in_ok-name.ensures c.in_ok-choice.choice c.in_ok-choice.was c.in_ok-page.page c.in_ok-page.ensures c.in_ok-stop_after.stop_after (c.in_ok-stop_after.ensures ∙ ap (λ o. count_of 1 MOST_CONNECTIONS o) c.value_of-2.ensures) c.in_err-rows.ensures

pub returns : goal.returns
returns c = serve_as (found_in c.args.matches.now) c.args.choice c.args.base c.args.reload c.in_ok-name.name.now c.in_ok-name.ensures c.in_ok-choice.choice c.in_ok-choice.was c.in_ok-page.page c.in_ok-page.ensures c.in_ok-stop_after.stop_after (c.in_ok-stop_after.ensures ∙ ap (λ o. count_of 1 MOST_CONNECTIONS o) c.value_of-2.ensures) c.in_ok-rows.rows c.in_ok-rows.ensures
