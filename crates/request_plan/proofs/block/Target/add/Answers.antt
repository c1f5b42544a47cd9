use Rattle.std.proofs.Common.{◌≡◌, List, [], ◌∷◌, true, false, refl, sym, subst, ◌∙◌}
use Rattle.std.specs.List.{list_any}
use Rattle.rdf_terms.specs.declared.slots.Slots.{Slots}
use Rattle.request_plan.specs.Blocks.{slots_eq}
use Rattle.request_plan.specs.Targets.{rows_length}
use Rattle.request_plan.proofs.Distinct.{found-is}
use Rattle.request_plan.proofs.Grown.{same-target, longer-target}
use Rattle.request_plan.proofs.block.Target.add.Goals as goal

pub returns-then-contains : goal.returns-then-contains
returns-then-contains c = λ form rows is.
    let places = c.in_ok-places.places in
    let found : list_any (λ other. slots_eq other places) c.deref.result.now ≡ true = sym (found-is c.deref.result.now places) ∙ sym c.contains.ensures.value ∙ c.if-contains.true in
    let there = subst (λ (l : List Slots). list_any (λ other. slots_eq other places) l ≡ true) c.deref.ensures.value found in
    same-target form c.args.pattern.now rows c.args.row.now c.args.self.now _ is refl refl (subst (λ (s : Slots). list_any (λ other. slots_eq other s) c.args.self.now.places.items ≡ true) c.in_ok-places.ensures there)

pub returns : goal.returns
returns c = λ form rows is.
    let places = c.in_ok-places.places in
    let missed : list_any (λ other. slots_eq other places) c.deref.result.now ≡ false = sym (found-is c.deref.result.now places) ∙ sym c.contains.ensures.value ∙ c.if-contains.false in
    let new = subst (λ (l : List Slots). list_any (λ other. slots_eq other places) l ≡ false) c.deref.ensures.value missed in
    longer-target form c.args.pattern.now rows c.args.row.now c.args.self.now _ places (rows_length (places ∷ [])) c.in_ok-places.ensures is c.in_ok-push.ensures.places refl c.in_ok-push.ensures.length new
