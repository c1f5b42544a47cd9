-- Links stay open.
use Rattle.std.proofs.Common.{ℕ, ◌≡◌, true, Option, List, inl, inr, ap, sym, subst, ◌∙◌, arith}
use Rattle.std.proofs.lemmas.Bool.{cases_eq}
use Rattle.tpf_base.specs.Links.{Link, WireState}
use Rattle.tpf_base.specs.Calls.{OnlyOn, Gives, GivesNone, Wakes}
use Rattle.tpf_base.specs.declared.wire.Ready.{Ready}
use Rattle.tpf_base.specs.declared.wire.Ready.TheVariants as ready
use Rattle.base_tests.specs.Played.{AreOpen}

-- a call on a link that leaves it open
pub open_on : (k : ℕ) (old new : WireState) → OnlyOn k old new → (new.links k).is_open ≡ (old.links k).is_open → AreOpen old → AreOpen new
open_on k old new only kept open_before = record {
  is_open = λ j below.
      let before : (old.links j).is_open ≡ true = open_before.is_open j (omega (arith, only.given)) in
      elim (cases_eq j k) [
        | inl same ↦ subst (λ i. (new.links i).is_open ≡ true) (sym same) (kept ∙ subst (λ i. (old.links i).is_open ≡ true) same before)
        | inr other ↦ ap (λ (l : Link). l.is_open) (only.others j other) ∙ before
      ];
}

-- a new link
pub open_given : (peer : Option (List ℕ × ℕ)) (number : ℕ) (old new : WireState) → Gives peer number old new → AreOpen old → AreOpen new
open_given peer number old new gives open_before = record {
  is_open = λ j below.
      elim (cases_eq j number) [
        | inl same ↦ subst (λ i. (new.links i).is_open ≡ true) (sym same) gives.is_open
        | inr other ↦ ap (λ (l : Link). l.is_open) (gives.others j other) ∙ open_before.is_open j (omega (arith, gives.more, gives.is_next, other, below))
      ];
}

-- no new link
pub open_none : (old new : WireState) → GivesNone old new → AreOpen old → AreOpen new
open_none old new none open_before = record {
  is_open = λ j below. ap (λ (l : Link). l.is_open) (none.links j) ∙ open_before.is_open j (omega (arith, none.given));
}

-- a wait
pub open_woken : (answer : Ready) (old new : WireState) → Wakes answer old new → new.given ≡ old.given → AreOpen old → AreOpen new
open_woken (ready.Link k) old new wakes given open_before = record {
  is_open = λ j below.
      let before : (old.links j).is_open ≡ true = open_before.is_open j (omega (arith, given)) in
      elim (cases_eq j k) [
        | inl same ↦ subst (λ i. (new.links i).is_open ≡ true) (sym same) (ap (λ (l : Link). l.is_open) wakes.1 ∙ wakes.0)
        | inr other ↦ ap (λ (l : Link). l.is_open) (wakes.2 j other) ∙ before
      ];
}
open_woken ready.Door old new wakes given open_before = record {
  is_open = λ j below. ap (λ (l : Link). l.is_open) (wakes.1 j) ∙ open_before.is_open j (omega (arith, given));
}

-- no link
pub open_first : (wire : WireState) → wire.given ≡ 0 → AreOpen wire
open_first wire none = record { is_open = λ j below. absurd (omega (arith, none, below)) }
