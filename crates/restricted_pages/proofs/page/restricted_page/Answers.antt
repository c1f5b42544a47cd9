-- The patterns are those of the rows, by whichever way their triples are found.
use Rattle.std.proofs.Common.{List, All, map, length, min, ◌-◌, ◌^◌, ◌<◌, refl, sym, ap, subst, ◌∙◌}
use Rattle.std.specs.List.{filter}
use Rattle.std.specs.List.Sorted.{IsStrictlySortedBy}
use Rattle.std.proofs.lemmas.List.Elements.{All-contains}
use Rattle.std.proofs.lemmas.Result.{IfOk-from_err}
use Rattle.rdf_terms.specs.declared.term.Triple.{Triple}
use Rattle.triple_table.specs.declared.ids.IdPattern.{IdPattern}
use Rattle.triple_table.specs.declared.ids.IdTriple.{IdTriple}
use Rattle.triple_table.specs.declared.ids.Order.{Order}
use Rattle.triple_table.specs.Stored.{IsIdPattern, IsIdTriple, triple_at}
use Rattle.restricted_pages.specs.Patterns.{ArePatternsOf, AreWithin, IsKnown, found, gathered, ids_order, left_of, matches_pattern}
use Rattle.restricted_pages.proofs.Selected.{ids_valid, left_is, listed_is, page_of_list, page_of_scan, within}
use Rattle.restricted_pages.proofs.page.restricted_page.Goals as goal

pub returns-in_err-patterns : goal.returns-in_err-patterns
returns-in_err-patterns g c = IfOk-from_err _ _ c.from_residual.ensures.0

pub total_of-total-requires : goal.total_of-total-requires
total_of-total-requires g c = subst (λ (ps : List IdPattern). All (IsIdPattern c.args.table.now) ps) (sym c.as_slice.ensures.value) c.in_ok-patterns.ensures.ids

pub gathered-requires : goal.gathered-requires
gathered-requires g c = subst (λ (ps : List IdPattern). All (IsIdPattern c.args.table.now) ps) (sym c.as_slice-then-total-most.ensures.value) c.in_ok-patterns.ensures.ids

pub returns-in_err-ids : goal.returns-in_err-ids
returns-in_err-ids g c = IfOk-from_err _ _ c.from_residual-in_err-ids.ensures.0

pub listed_page-requires : goal.listed_page-requires
listed_page-requires g c = c.requires.size

pub returns-in_err-sieve : goal.returns-in_err-sieve
returns-in_err-sieve g c = IfOk-from_err _ _ c.from_residual-in_err-sieve.ensures.0

pub counted-known-requires-clause-small : goal.counted-known-requires-clause-small
counted-known-requires-clause-small g c = subst (λ n. n < 2 ^ 64) c.len.ensures.len c.len.type_inv

pub counted-known-requires-clause-data_set : goal.counted-known-requires-clause-data_set
counted-known-requires-clause-data_set g c = c.len.ensures.data_set

pub counted-known-requires-clause-ranking : goal.counted-known-requires-clause-ranking
counted-known-requires-clause-ranking g c = c.len.ensures.ranking

pub counted-known-requires-clause-patterns : goal.counted-known-requires-clause-patterns
counted-known-requires-clause-patterns g c =
    let s = c.args.table.now in let slots = c.args.slots.now in
    subst (λ (ps : List IdPattern). AreWithin s slots ps) (sym (c.patterns.ensures ∙ c.in_ok-sieve.ensures)) (within s slots c.args.rows.now c.in_ok-patterns.patterns.items c.in_ok-patterns.ensures)

pub counted-known-requires-clause-total : goal.counted-known-requires-clause-total
counted-known-requires-clause-total g c =
    c.total_of-total.ensures
    ∙ ap (λ (ps : List IdPattern). min (length (gathered c.args.table.now ps)) (2 ^ 64 - 1)) (c.as_slice.ensures.value ∙ sym (c.patterns.ensures ∙ c.in_ok-sieve.ensures))

pub walked_page-requires-clause-size : goal.walked_page-requires-clause-size
walked_page-requires-clause-size g c = c.requires.size

pub walked_page-requires-clause-range : goal.walked_page-requires-clause-range
walked_page-requires-clause-range g c = c.counted-known.ensures.range

pub walked_page-requires-clause-ranking : goal.walked_page-requires-clause-ranking
walked_page-requires-clause-ranking g c = c.len.ensures.ranking

pub walked_page-requires-clause-ids : goal.walked_page-requires-clause-ids
walked_page-requires-clause-ids g c = subst (λ (ps : List IdPattern). All (IsIdPattern c.args.table.now) ps) (sym c.in_ok-sieve.ensures) c.in_ok-patterns.ensures.ids

pub walked_page-requires-clause-known : goal.walked_page-requires-clause-known
walked_page-requires-clause-known g c =
    let s = c.args.table.now in
    subst (λ n. IsKnown c.counted-known.result.1 n)
    (ap (λ (ps : List IdPattern). length (left_of s c.args.slots.now ps)) c.patterns.ensures ∙ ap (λ (xs : List Triple). length (filter (matches_pattern s c.in_ok-sieve.sieve) xs)) (sym c.counted-known.ensures.lists))
    c.counted-known.ensures.count

pub returns-in_ok-ids : goal.returns-in_ok-ids
returns-in_ok-ids g c =
    let s = c.args.table.now in let slots = c.args.slots.now in let rows = c.args.rows.now in let ps = c.as_slice-then-total-most.result.now in
    let are = subst (λ (l : List IdPattern). ArePatternsOf s slots rows l) (sym c.as_slice-then-total-most.ensures.value) c.in_ok-patterns.ensures in
    let w = within s slots rows ps are in
    let ascend = c.len.ensures.ranking.ascending in
    let raw = c.in_ok-ids.ids.items in let ids = c.in_order-ids.result.items in
    let each = λ (t : IdTriple). All-contains (IsIdTriple s.terms) raw t c.in_ok-ids.ensures.each in
    let sorted = subst (λ (o : Order). IsStrictlySortedBy (ids_order o) ids) c.order_of.ensures c.in_order-ids.ensures.ascending in
    let valid = ids_valid s ascend slots ps w raw ids each c.in_ok-ids.ensures.are c.in_order-ids.ensures.members in
    let lists = listed_is s ascend slots ps w raw ids each c.in_ok-ids.ensures.are c.in_order-ids.ensures.members sorted in
    page_of_list s slots rows c.args.k c.args.size c.as_slice-then-total-most-2.result.now (subst (λ (l : List IdTriple). All (IsIdTriple s.terms) l) (sym c.as_slice-then-total-most-2.ensures.value) valid)
    (ap (map (triple_at s.terms)) c.as_slice-then-total-most-2.ensures.value ∙ lists ∙ left_is s slots rows ps c.requires.some are) c.listed_page.result c.listed_page.ensures

pub returns-in_ok-sieve : goal.returns-in_ok-sieve
returns-in_ok-sieve g c =
    let s = c.args.table.now in let slots = c.args.slots.now in let rows = c.args.rows.now in let ps = c.in_ok-sieve.sieve in
    let are = subst (λ (l : List IdPattern). ArePatternsOf s slots rows l) (sym c.in_ok-sieve.ensures) c.in_ok-patterns.ensures in
    let left = found s c.counted-known.result.0 ps in
    page_of_scan s slots rows c.args.k c.args.size left (length left)
    (ap (filter (matches_pattern s ps)) c.counted-known.ensures.lists ∙ left_is s slots rows ps c.requires.some are) refl c.walked_page.result c.walked_page.ensures
