use Rattle.std.proofs.Common.{◌∙◌, rules, tests}
use Rattle.std.proofs.lemmas.Iterator.{YieldsList-from_slice}
use Rattle.std.proofs.lemmas.Iterator.Search.{any_from_yields_List}
use Rattle.pattern_parser.specs.Queries.{is_star}
use Rattle.pattern_parser.proofs.Searches.{star_is}
use Rattle.pattern_parser.proofs.select.has_star.Goals as goal

pub returns : goal.returns
returns c =
    any_from_yields_List (λ w. is_star w.value) _ _ c.any.result c.any.ensures.ran (YieldsList-from_slice c.args.words.now (cc)) (λ x b q k. search (rules, tests)) ∙ star_is c.args.words.now
