-- What stands on the pages of a fragment.
use Rattle.std.proofs.Common.{ℕ, suc, ◌≡◌, ◌-◌, ◌<◌, ◌≤◌, [], ◌++◌, ap, arith}
use Rattle.std.specs.List.{flat_map}
use Rattle.list_laws.proofs.Tests.{all_numbers}
use Rattle.rdf_terms.specs.Selections.{Selection}
use Rattle.request_plan.specs.Worlds.{World, numbers, items_after}

pub one-more : (n k : ℕ) → k < n → n - k ≡ suc (n - suc k)
one-more n k h = omega (arith, h)

-- what stands on all pages
pub items-first : (w : World) (s : Selection) → items_after w s 0 ≡ flat_map (w.items s) (numbers 0 (w.last s))
items-first w s = ap (λ n. flat_map (w.items s) (numbers 0 n)) (all_numbers (w.last s))

-- what stands on the pages from one on is what stands on it, and on those behind it
pub items-more : (w : World) (s : Selection) (k : ℕ) → k < w.last s → items_after w s k ≡ w.items s k ++ items_after w s (suc k)
items-more w s k h = ap (λ n. flat_map (w.items s) (numbers k n)) (one-more (w.last s) k h)

-- nothing stands behind the last page
pub after_last : (w : World) (s : Selection) (k : ℕ) → w.last s ≤ k → items_after w s k ≡ []
after_last w s k h =
    let none : w.last s - k ≡ 0 = omega (arith, h) in
    ap (λ n. flat_map (w.items s) (numbers k n)) none
