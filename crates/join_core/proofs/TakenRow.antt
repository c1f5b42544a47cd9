-- The last of the rows that wait is taken.
use Rattle.std.proofs.Common.{◌≡◌, ◌+◌, ◌++◌, List, [], length, Option, Some, None, refl, ap, sym, ◌∙◌}
use Rattle.std.specs.Prelude.{MatchOption, ⊤, option_to_list}
use Rattle.std.proofs.lemmas.List.{nil_from_length}
use Rattle.bgp_core.specs.Solutions.{Places}
use Rattle.join_core.specs.Joins.{JoinData}
use Rattle.join_core.specs.TakenRows.{TakesRow}
use Rattle.join_core.proofs.Promises.{row-taken, row-given}
use Rattle.join_core.proofs.Keeping.{row-keeps, row-width}
use Rattle.join_core.proofs.Small.{small-as}

module _ (old : JoinData) (rest : List Places) where
  abbrev left : JoinData
  left = record old { waiting = rest }

  none-waits : (r : Option Places) → MatchOption r ((length old.waiting ≡ 0) × (length rest ≡ 0)) (λ row. length rest + 1 ≡ length old.waiting) → MatchOption r (old.waiting ≡ []) (λ row. ⊤)
  none-waits None counted = nil_from_length old.waiting counted.0
  none-waits (Some row) counted = tt

  none-taken : (r : Option Places) → MatchOption r ((length old.waiting ≡ 0) × (length rest ≡ 0)) (λ row. length rest + 1 ≡ length old.waiting) → MatchOption r (left ≡ old) (λ row. ⊤)
  none-taken None counted = ap (λ (l : List Places). record old { waiting = l }) (nil_from_length rest counted.1 ∙ sym (nil_from_length old.waiting counted.0))
  none-taken (Some row) counted = tt

  one-less : (r : Option Places) → MatchOption r ((length old.waiting ≡ 0) × (length rest ≡ 0)) (λ row. length rest + 1 ≡ length old.waiting) → MatchOption r ⊤ (λ row. length old.waiting ≡ length rest + 1)
  one-less None counted = tt
  one-less (Some row) counted = sym counted

  pub row-takes : (r : Option Places) → old.waiting ≡ rest ++ option_to_list r → MatchOption r ((length old.waiting ≡ 0) × (length rest ≡ 0)) (λ row. length rest + 1 ≡ length old.waiting) → TakesRow old (record old { waiting = rest }) r
  row-takes r h counted = record {
    none = none-waits r counted;
    stays = none-taken r counted;
    gives = row-given old (record old { waiting = rest }) r h refl;
    row = λ w is. row-taken w old (record old { waiting = rest }) r h refl refl refl is;
    tickets = refl;
    one = one-less r counted;
    keeps = λ terms k. (row-keeps terms old (record old { waiting = rest }) r h refl refl refl refl k).0;
    width = λ terms k. row-width terms old rest r h k;
    small = λ n m k. small-as n m old (record old { waiting = rest }) refl refl refl k;
    kept = (refl, refl);
  }
