use Rattle.std.proofs.Common.{◌∙◌, rules, tests}
use Rattle.std.specs.BTreeMap.{get_by_text}
use Rattle.std.proofs.lemmas.Iterator.{YieldsList-from_slice}
use Rattle.std.proofs.lemmas.Iterator.Search.{find_from_yields_List}
use Rattle.pattern_parser.specs.Prefixes.{is_unknown}
use Rattle.pattern_parser.proofs.Searches.{found_at}
use Rattle.pattern_parser.proofs.prefixes.first_unknown.Goals as goal

pub returns : goal.returns
returns c =
    let ws = c.args.words.now in
    let found = found_at (is_unknown (λ q. get_by_text c.args.prefixes.now q)) ws _ (find_from_yields_List (λ w. is_unknown (λ q. get_by_text c.args.prefixes.now q) w.value) _ _ c.find.result c.find.ensures.ran (YieldsList-from_slice ws (cc)) (λ x b q k. search (rules, tests))) in
    let there = rw (c.in_ok-word.was) at found in
    there

pub returns-in_err-word : goal.returns-in_err-word
returns-in_err-word c =
    let ws = c.args.words.now in
    let found = found_at (is_unknown (λ q. get_by_text c.args.prefixes.now q)) ws _ (find_from_yields_List (λ w. is_unknown (λ q. get_by_text c.args.prefixes.now q) w.value) _ _ c.find.result c.find.ensures.ran (YieldsList-from_slice ws (cc)) (λ x b q k. search (rules, tests))) in
    let there = rw (c.in_err-word.was) at found in
    c.from_residual.ensures ∙ there
