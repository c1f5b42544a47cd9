-- Lists of rows as SPARQL's algebra joins them (SPARQL 1.1 Query, 18.5), each row as often as it counts it.
use Rattle.std.specs.Prelude.{ℕ, ◌≡◌, Bool, true, false, not, ◌&&◌, List, [], ◌∷◌, length, Option, Some, None, if◌then◌else◌}
use Rattle.std.specs.List.{flat_map, filter, Contains, AllByRecursion}
use Rattle.std.specs.List.Sorted.{IsPermutation}
use Rattle.rdf_terms.specs.Same.{term_eq}
use Rattle.rdf_terms.specs.declared.term.Term.{Term}
use Rattle.bgp_core.specs.Solutions.{Places}
use Rattle.bgp_core.specs.Merging.{compatible, merged, Binds}

-- each row has so many places
abbrev pub HaveWidth : ℕ → List Places → Type 0
HaveWidth width rows = AllByRecursion (λ row. width ≡ length row) rows

-- the rows of both lists have as many places as each other
abbrev pub AreAsWide : List Places → List Places → Type 0
AreAsWide left right = (width : ℕ) × HaveWidth width left × HaveWidth width right

-- the union of two rows, where they are compatible
abbrev pub merge : Places → Places → List Places
merge l r = if compatible l r then merged l r ∷ [] else []

-- a row with each that is compatible with it
abbrev pub merges : List Places → Places → List Places
merges right l = flat_map (merge l) right

-- Join
abbrev pub joined : List Places → List Places → List Places
joined left right = flat_map (merges right) left

-- the rows, or this one where there are none
abbrev pub or_alone : Places → List Places → List Places
or_alone l [] = l ∷ []
or_alone l (r ∷ rs) = r ∷ rs

-- LeftJoin without a condition: the Join, and each row of the left that is compatible with none of the right
abbrev pub optional : List Places → List Places → List Places
optional left right = flat_map (λ l. or_alone l (merges right l)) left

-- ---- Distinct

abbrev pub place_eq : Option Term → Option Term → Bool
place_eq None None = true
place_eq (Some t) (Some u) = term_eq t u
place_eq o p = false

abbrev pub row_eq : Places → Places → Bool
row_eq [] [] = true
row_eq (o ∷ r) (p ∷ s) = place_eq o p && row_eq r s
row_eq r s = false

-- each row once, in the order of their first places
abbrev pub once : List Places → List Places
once [] = []
once (r ∷ rs) = r ∷ filter (λ s. not (row_eq r s)) (once rs)

-- the row binds no name but these
abbrev pub BindsOnly : List ℕ → Places → Type 0
BindsOnly names row = (n : ℕ) → Binds row n → Contains names n

-- ---- the laws

-- the order of the rows on both sides changes the order of the result alone
pub record OrderIsFree : Type 0 where
  pub joins : (a b c d : List Places) → IsPermutation a b → IsPermutation c d → IsPermutation (joined a c) (joined b d)
  pub optionals : (a b c d : List Places) → IsPermutation a b → IsPermutation c d → IsPermutation (optional a c) (optional b d)
  pub onces : (a b : List Places) → IsPermutation a b → IsPermutation (once a) (once b)
