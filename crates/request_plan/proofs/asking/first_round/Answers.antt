use Rattle.std.proofs.Common.{◌≡◌, ◌<◌, true, List, length, ap, sym, subst, arith}
use Rattle.rdf_terms.specs.declared.slots.Slots.{Slots}
use Rattle.rdf_terms.specs.Selections.{Selection}
use Rattle.bgp_core.specs.Solutions.{Places}
use Rattle.request_plan.specs.Blocks.{is_askable, selection_for}
use Rattle.request_plan.proofs.Asked.{selection-askable}
use Rattle.request_plan.proofs.asking.first_round.Goals as goal

pub first_round-round-requires : goal.first_round-round-requires
first_round-round-requires c =
    let some : 0 < length c.args.rows.now = omega (arith, ap (λ (l : List Places). length l) c.first-first.ensures) in
    let asked : is_askable (selection_for c.args.pattern.now c.args.rows.now) ≡ true = selection-askable c.args.pattern.now c.args.rows.now some c.requires in
    subst (λ (rows : List Slots). is_askable (record { slots = c.in_ok-slots.slots; rows = rows }) ≡ true) (sym c.as_slice.ensures.value) (subst (λ (s : Selection). is_askable s ≡ true) (sym c.in_ok-slots.ensures) asked)
