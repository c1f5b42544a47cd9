-- A sort by the lengths of terms.
use Rattle.std.proofs.Common.{◌≡◌, Bool, List, ap}
use Rattle.std.specs.declared.cmp.Ordering.{Ordering}
use Rattle.std.specs.Ordering.{is_lt}
use Rattle.std.specs.Borrow.{Bor}
use Rattle.std.specs.Cmp.{IsStrictWeakOrder}
use Rattle.std.specs.Fn.{Mut, Called, ComparesAs}
use Rattle.std.specs.List.Sorted.{IsSorted, IsSortedBy}
use Rattle.std.proofs.lemmas.Fn.{always_returns_same}
use Rattle.std.proofs.lemmas.List.Sorted.{ranks_by}
use Rattle.rdf_terms.specs.declared.term.Triple.{Triple}
use Rattle.control_triples.specs.Ranges.{length_triple_order}
use Rattle.control_triples.specs.LengthLaws.{length_triple_total}

-- from the clause `sorted` of a sort, where each call compares two triples
pub sorted_by_length : {F : Type 0} {g : Mut F (Bor (Bor Triple) × (Bor (Bor Triple) × Unit {0})) Ordering} {f : F} (xs : List (Bor Triple))
    → ((lt : Bor Triple → Bor Triple → Bool) → IsStrictWeakOrder lt → ComparesAs g lt f → IsSortedBy lt xs)
    → ((a : Bor (Bor Triple) × (Bor (Bor Triple) × Unit {0})) (r : Ordering) (f' : F) → Called g f a r f' → (r ≡ length_triple_order a.0.now.now a.1.0.now.now) × (f' ≡ f))
    → IsSorted (λ (x y : Bor Triple). length_triple_order x.now y.now) xs
sorted_by_length {g = g} {f = f} xs up h =
    up (λ (x y : Bor Triple). is_lt (length_triple_order x.now y.now)) (ranks_by length_triple_total (λ (t : Bor Triple). t.now))
    (always_returns_same g (λ a r. is_lt r ≡ is_lt (length_triple_order a.0.now.now a.1.0.now.now)) f (λ a r f' k. (ap is_lt (h a r f' k).0, (h a r f' k).1)))
