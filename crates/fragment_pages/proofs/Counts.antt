-- Pages counted.
use Rattle.std.proofs.Common.{ℕ, ◌≡◌, ◌+◌, ◌-◌, ◌/◌, ◌≤◌, ap, ◌∙◌, arith}
use Rattle.std.proofs.Math.Nat.{add-div_right}
use Rattle.rdf_terms.specs.Fragments.{last_page_of}

pub last_of_some : (count size : ℕ) → 1 ≤ size → 1 ≤ count → (count - 1) / size + 1 ≡ last_page_of count size
last_of_some count size h c =
    let e : count + (size - 1) ≡ count - 1 + size = omega (arith, h, c) in
    let f : (count + (size - 1)) / size ≡ (count - 1) / size + 1 = ap (λ n. n / size) e ∙ add-div_right (count - 1) (omega (arith, h)) in
    rw f (omega arith)
