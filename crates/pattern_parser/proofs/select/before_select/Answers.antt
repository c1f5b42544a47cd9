use Rattle.std.proofs.Common.{◌≡◌, length, refl, rules, tests}
use Rattle.std.specs.List.{position}
use Rattle.std.proofs.lemmas.Iterator.{YieldsList-from_slice}
use Rattle.std.proofs.lemmas.Iterator.Search.{position_from_yields_List}
use Rattle.pattern_parser.specs.Prefixes.{before}
use Rattle.pattern_parser.specs.Queries.{is_select}
use Rattle.pattern_parser.proofs.Searches.{before_is, before_within}
use Rattle.pattern_parser.proofs.select.before_select.Goals as goal

pub returns : goal.returns
returns c =
    let ws = c.args.words.now in
    let found : c.position.result ≡ position (λ w. is_select w.value) ws = position_from_yields_List (λ w. is_select w.value) _ _ c.position.result c.position.ensures.ran (YieldsList-from_slice ws (cc)) (λ x b q k. search (rules, tests)) in
    let value : c.unwrap_or.result ≡ before is_select ws = before_is is_select ws c.position.result (length ws) c.unwrap_or.result found refl c.unwrap_or.ensures in
    record { value = value; within = before_within is_select ws c.unwrap_or.result value }
