-- Two texts are together a third exactly where the first begins it and the second is the rest.
use Rattle.std.proofs.Common.{ℕ, ◌≡◌, ◌≢◌, false, List, ◌++◌, sym, ap, ◌∙◌}
use Rattle.std.specs.Str.{bytes_eq}
use Rattle.std.proofs.lemmas.Bool.{false≢true}
use Rattle.std.proofs.lemmas.List.{append_cancel_left}
use Rattle.std.proofs.lemmas.Slice.Eq.{bytes_eq-Decides}
use Rattle.list_laws.proofs.Tests.{same_truth}

pub joined_same : (whole front rest local : List ℕ) → whole ≡ front ++ rest → bytes_eq rest local ≡ bytes_eq (front ++ local) whole
joined_same whole front rest local e =
    same_truth (bytes_eq rest local) (bytes_eq (front ++ local) whole)
    (λ t. (bytes_eq-Decides (front ++ local) whole).1 (ap (λ (l : List ℕ). front ++ l) (sym ((bytes_eq-Decides rest local).0 t)) ∙ sym e))
    (λ t. (bytes_eq-Decides rest local).1 (sym (append_cancel_left front local rest ((bytes_eq-Decides (front ++ local) whole).0 t ∙ e))))

pub joined_other : (whole front local : List ℕ) → ((rest : List ℕ) → whole ≢ front ++ rest) → false ≡ bytes_eq (front ++ local) whole
joined_other whole front local none =
    same_truth false (bytes_eq (front ++ local) whole)
    (λ t. absurd (false≢true t))
    (λ t. absurd (none local (sym ((bytes_eq-Decides (front ++ local) whole).0 t))))
