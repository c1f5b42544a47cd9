-- What is the only one.
use Rattle.std.proofs.Common.{◌≡◌, sym, ◌∙◌}
use Rattle.control_triples.specs.Controls.{IsOnly, HasTwo}

pub only_not_two : {X : Type 0} (P : X → Type 0) (x : X) → IsOnly P x → HasTwo P → ⊥
only_not_two P x h two = two.4 (h.1 two.0 two.2 ∙ sym (h.1 two.1 two.3))

pub only_one : {X : Type 0} (P : X → Type 0) (x y : X) → IsOnly P x → IsOnly P y → x ≡ y
only_one P x y h k = k.1 x h.0
