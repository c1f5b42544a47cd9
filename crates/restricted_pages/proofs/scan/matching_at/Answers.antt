use Rattle.std.proofs.Common.{ap, sym, ◌∙◌}
use Rattle.restricted_pages.specs.Patterns.{matches_pattern}
use Rattle.restricted_pages.proofs.Fits.{one_fits}
use Rattle.restricted_pages.proofs.scan.matching_at.Goals as goal

pub returns-then-matches : goal.returns-then-matches
returns-then-matches c =
    let s = c.args.table.now in
    let test = one_fits s c.requires.ranking.ascending c.at-triple.result c.at-triple.ensures.ids c.args.patterns.now c.requires.ids in
    (c.at-triple.ensures.ids, c.at-triple.ensures.triple, sym test ∙ sym c.matches.ensures ∙ c.if-matches.true)

pub returns-else-matches : goal.returns-else-matches
returns-else-matches c = λ d.
    let s = c.args.table.now in
    let test = one_fits s c.requires.ranking.ascending c.at-triple.result c.at-triple.ensures.ids c.args.patterns.now c.requires.ids in
    ap (matches_pattern s c.args.patterns.now) (c.at-triple.ensures.triple d) ∙ sym test ∙ sym c.matches.ensures ∙ c.if-matches.false
