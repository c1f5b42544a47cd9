-- Rows found by the terms of some names. It serves the proofs alone.
use Rattle.std.specs.Prelude.{ℕ, suc, ◌≡◌, Bool, true, not, ◌&&◌, ◌++◌, List, [], ◌∷◌, map, Option, Some, None, if◌then◌else◌, slice_get, option_copied, is_some, Vec}
use Rattle.std.specs.Ordering.{is_eq}
use Rattle.std.specs.Option.{option_cmp}
use Rattle.std.specs.declared.cmp.Ordering.{Ordering}
use Rattle.std.specs.Cmp.Lexicographic.{slice_cmp}
use Rattle.std.specs.List.{flat_map, list_all, list_any, AllByRecursion}
use Rattle.std.specs.BTreeMap.{BTreeMap, get}
use Rattle.std.specs.BTreeSet.{BTreeSet, contains}
use Rattle.std.proofs.Common.{Bor}
use Rattle.rdf_terms.specs.Order.{term_order}
use Rattle.rdf_terms.specs.declared.term.Term.{Term}
use Rattle.bgp_core.specs.Solutions.{Places, term_at}
use Rattle.row_algebra.specs.Algebra.{merge, merges, or_alone, row_eq}

-- ---- keys

-- the terms of some names
abbrev pub key_of : List ℕ → Places → List (Option Term)
key_of names row = map (term_at row) names

-- the row binds each of the names
abbrev pub BindsAll : List ℕ → Places → Type 0
BindsAll names row = AllByRecursion (λ n. is_some (term_at row n) ≡ true) names

-- each row binds the name
abbrev pub all_bind : ℕ → List Places → Bool
all_bind n rows = list_all (λ row. is_some (term_at row n)) rows

-- a name, if each row of both lists binds it
abbrev pub shared_name : List Places → List Places → ℕ → List ℕ
shared_name left right n = if all_bind n left && all_bind n right then n ∷ [] else []

-- the terms that a key has
abbrev pub terms_of : {Z : Type 0} → Vec (Option (Bor Term)) Z → List (Option Term)
terms_of key = map option_copied key.items

-- the order of keys
abbrev pub key_order : {Z : Type 0} → Vec (Option (Bor Term)) Z → Vec (Option (Bor Term)) Z → Ordering
key_order x y = slice_cmp (option_cmp (λ a b. term_order a.now b.now)) x.items y.items

-- ---- places by keys

-- the places at which a test holds, the first being n
abbrev pub places_where : {X : Type 0} → (X → Bool) → ℕ → List X → List ℕ
places_where p n [] = []
places_where p n (x ∷ xs) = if p x then n ∷ places_where p (suc n) xs else places_where p (suc n) xs

abbrev pub listed : Option (List ℕ) → List ℕ
listed None = []
listed (Some places) = places

-- a place is added to those of its key
abbrev pub Adds : {K : Type 0} → (K → K → Ordering) → K → ℕ → BTreeMap K (List ℕ) → BTreeMap K (List ℕ) → Type 0
Adds {K} cmp key place old new = (q : K) → listed (get cmp new q) ≡ listed (get cmp old q) ++ (if is_eq (cmp q key) then place ∷ [] else [])

-- whether a row has these terms for some names
abbrev pub has_key : List ℕ → List (Option Term) → Places → Bool
has_key names key row = row_eq key (key_of names row)

-- a map has the places of each key's rows, in their order
abbrev pub IsIndexOf : {Z : Type 0} → List ℕ → List Places → BTreeMap (Vec (Option (Bor Term)) Z) (List ℕ) → Type 0
IsIndexOf {Z} names rows m = (q : Vec (Option (Bor Term)) Z) → listed (get key_order m q) ≡ places_where (has_key names (terms_of q)) 0 rows

-- ---- rows by places

abbrev pub merge_with : Places → Option Places → List Places
merge_with l None = []
merge_with l (Some r) = merge l r

-- a row with those at some places that are compatible with it
abbrev pub merges_at : Places → List Places → List ℕ → List Places
merges_at l right places = flat_map (λ p. merge_with l (slice_get right p)) places

-- what one row gives: in a LeftJoin itself where there is nothing else
abbrev pub given : Bool → Places → List Places → List Places
given keeps l rows = if keeps then or_alone l rows else rows

abbrev pub given_at : Bool → List Places → List ℕ → Places → List Places
given_at keeps right places l = given keeps l (merges_at l right places)

-- Join, or LeftJoin
abbrev pub combined : Bool → List Places → List Places → List Places
combined keeps left right = flat_map (λ l. given keeps l (merges right l)) left

-- ---- rows that stand once

-- for each row whether none before it passes a test with it
abbrev pub news : (Places → Places → Bool) → List Places → List Places → List Bool
news same before [] = []
news same before (r ∷ rs) = not (list_any (λ s. same s r) before) ∷ news same (before ++ r ∷ []) rs

-- rows with the same terms for some names
abbrev pub same_key : List ℕ → Places → Places → Bool
same_key names s r = row_eq (key_of names s) (key_of names r)

-- a set has the keys of some rows
abbrev pub HasKeys : {Z : Type 0} → List ℕ → List Places → BTreeSet (Vec (Option (Bor Term)) Z) → Type 0
HasKeys {Z} names rows seen = (q : Vec (Option (Bor Term)) Z) → contains key_order seen q ≡ list_any (λ s. row_eq (key_of names s) (terms_of q)) rows

abbrev pub row_if : Bool → Places → List Places
row_if b r = if b then r ∷ [] else []

-- the rows whose flags are set
abbrev pub flagged : List Bool → List Places → List Places
flagged [] rows = []
flagged (b ∷ bs) [] = []
flagged (b ∷ bs) (r ∷ rs) = row_if b r ++ flagged bs rs
