use Rattle.std.proofs.Common.{◌*◌, ◌-◌, ◌^◌, ◌≤◌, min, rules, refl, ap, subst, ◌∙◌}
use Rattle.restricted_pages.specs.Patterns.{AreIdsOf, IsNumber, cut, found}
use Rattle.restricted_pages.proofs.Walks.{place_is}
use Rattle.restricted_pages.proofs.page.counted_page.Goals as goal

pub returns-in-Some : goal.returns-in-Some
returns-in-Some c =
    let s = c.args.table.now in let items = found s c.args.range.now c.args.patterns.now in
    let walk = c.in_ok-part.ensures in let part = c.in_ok-part.part in let count = walk.count refl in
    let few : part.count ≤ 2 ^ 64 - 1 = search rules in
    let before = c.saturating_mul-before.ensures ∙ ap (λ n. min (n * c.args.size) (2 ^ 64 - 1)) c.saturating_sub.ensures in
    let at = place_is c.args.k c.args.size _ part.count c.saturating_mul-before.result c.in-Some.ensures.1 c.in-Some.ensures.2 few before in
    (subst (λ n. IsNumber n c.args.k c.args.size) count c.in-Some.ensures.0, subst (λ n. AreIdsOf s part.triples.items (cut n c.args.size items)) at walk.page, count)
