use Rattle.std.proofs.Common.{◌≡◌, List, true, false, ap, sym, subst, ◌∙◌}
use Rattle.std.specs.List.{list_any}
use Rattle.rdf_terms.specs.declared.slots.Slots.{Slots}
use Rattle.request_plan.specs.Blocks.{slots_eq}
use Rattle.request_plan.specs.Targets.{with_distinct}
use Rattle.request_plan.proofs.Distinct.{found-is, stands-there, stands-new}
use Rattle.request_plan.proofs.block.add_places.Goals as goal

pub returns-in_ok-push : goal.returns-in_ok-push
returns-in_ok-push c =
    let had = c.args.distinct.now.items in
    let places = c.in_ok-places.places in
    let missed : list_any (λ other. slots_eq other places) c.deref.result.now ≡ false = sym (found-is c.deref.result.now places) ∙ sym c.contains.ensures.value ∙ c.if-not-contains.true in
    let new = subst (λ (l : List Slots). list_any (λ other. slots_eq other places) l ≡ false) c.deref.ensures.value missed in
    c.in_ok-push.ensures.items ∙ sym (stands-new had places new) ∙ ap (λ (s : Slots). with_distinct had s) c.in_ok-places.ensures

pub returns-else-not-contains : goal.returns-else-not-contains
returns-else-not-contains c =
    let had = c.args.distinct.now.items in
    let places = c.in_ok-places.places in
    let found : list_any (λ other. slots_eq other places) c.deref.result.now ≡ true = sym (found-is c.deref.result.now places) ∙ sym c.contains.ensures.value ∙ c.if-not-contains.false in
    let there = subst (λ (l : List Slots). list_any (λ other. slots_eq other places) l ≡ true) c.deref.ensures.value found in
    sym (stands-there had places there) ∙ ap (λ (s : Slots). with_distinct had s) c.in_ok-places.ensures
