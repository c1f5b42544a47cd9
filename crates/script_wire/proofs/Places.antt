-- Scripts and links by their number.
use Rattle.std.proofs.Common.{ℕ, zero, suc, true, [], ◌∷◌, arith, ◌≡◌, ◌<◌, List, length, get_or, slice_get, Some, sym, ◌∙◌}
use Rattle.std.proofs.lemmas.List.{get_or_default}
use Rattle.std.proofs.lemmas.Option.{get_or_from_slice_get}
use Rattle.script_wire.specs.Scripts.{Scripted, no_link}

-- what stands at a place that was read
pub script_at : {A : Type 0} (xs : List A) (k : ℕ) (x d : A) → slice_get xs k ≡ Some x → d ≡ get_or xs k d → d ≡ x
script_at xs k x d at is = is ∙ get_or_from_slice_get xs k x d at

-- the same at any default
pub held_at : {A : Type 0} (xs : List A) (k : ℕ) (x d : A) → k < length xs → x ≡ get_or xs k x → get_or xs k d ≡ x
held_at xs k x d below is = get_or_default xs k d x below ∙ sym is

-- an open link was given
pub open_below : (links : List Scripted) (k : ℕ) → (get_or links k no_link).is_open ≡ true → k < length links
open_below [] k is = absurd cc
open_below (held ∷ links) zero is = omega (arith)
open_below (held ∷ links) (suc k) is = omega (arith, open_below links k is)
