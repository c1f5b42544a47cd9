-- The addresses that were read stand before those of the names to come.
use Rattle.std.proofs.lemmas.Result.{IfOk-from_err}
use Rattle.command_words.specs.Apps.{found_in}
use Rattle.command_words.proofs.Chains.{all_urls, bad_url, last_url, no_urls, one_url}
use Rattle.command_words.proofs.federate.urls_in.Goals as goal

pub loop-name-init : goal.loop-name-init
loop-name-init c = no_urls (found_in c.args.matches.now) c.args.names.now c.new-urls.result.items c.new-urls.ensures.items

pub returns-in_default : goal.returns-in_default
returns-in_default c = last_url (found_in c.args.matches.now) c.args.names.now c.loop-name.name-index _ c.loop-name.urls.items c.loop-name-test.true c.loop-name.invariant c.in_default.ensures

pub returns-in_err-url : goal.returns-in_err-url
returns-in_err-url c = IfOk-from_err _ _ c.from_residual.ensures.0

pub returns-in_default-2 : goal.returns-in_default-2
returns-in_default-2 c = bad_url (found_in c.args.matches.now) c.args.names.now c.loop-name.name-index _ c.loop-name.urls.items c.loop-name-test.true c.loop-name.invariant c.in-Some.text.now c.in_ok-url.field-0 c.in-Some.ensures c.in_ok-url.ensures c.in_default-2.is

pub returns-in_err-push : goal.returns-in_err-push
returns-in_err-push c = IfOk-from_err _ _ c.from_residual-in_err-push.ensures.0

pub loop-name-preserved : goal.loop-name-preserved
loop-name-preserved c = one_url (found_in c.args.matches.now) c.args.names.now c.loop-name.name-index _ c.loop-name.urls.items c.loop-name-test.true c.loop-name.invariant c.in-Some.text.now c.in_ok-url.field-0 c.in-Some-2.url c.push.new.self.items c.in-Some.ensures c.in_ok-url.ensures c.in-Some-2.is c.in_ok-push.ensures.items

pub returns : goal.returns
returns c = all_urls (found_in c.args.matches.now) c.args.names.now c.loop-name.name-index c.loop-name.urls.items c.loop-name-test.false c.loop-name.invariant
