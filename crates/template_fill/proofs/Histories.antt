-- The versions of a history.
use Rattle.std.proofs.Common.{ℕ, ◌≡◌, ◌-◌, ◌+◌, ◌<◌, ◌≤◌, true, false, nat_le, List, [], ◌∷◌, ◌++◌, length, if◌then◌else◌, lit≤, refl, sym, ap, ◌∙◌, arith, length-append, inl, inr}
use Rattle.std.specs.Prelude.{Bool, suc}
use Rattle.std.specs.List.{AllByRecursion}
use Rattle.std.proofs.lemmas.Bool.{cases_lt}
use Rattle.std.proofs.lemmas.Bool.Decides.{nat_tests}
use Rattle.std.specs.List.Sorted.{IsStrictlySortedBy}
use Rattle.rdf_terms.specs.declared.term.Triple.{Triple}
use Rattle.template_fill.specs.Bodies.{version_of}
use Rattle.template_fill.specs.Configurations.{IsValidDataSet, VersionsAreValid, OneDataSetIsHistory, LastVersionIsServed, VersionsFollow, VersionsStay}

version_all : (P : List Triple → Type 0) → P [] → (history : List (List Triple)) (version : ℕ) → AllByRecursion P history → P (version_of history version)
version_all P none [] version all = none
version_all P none (triples ∷ later) version all =
    elim (nat_le version 1) as (λ v. P (if v then triples else version_of later (version - 1))) [
      | true ↦ all.0
      | false ↦ version_all P none later (version - 1) all.1
    ]

nothing : IsValidDataSet []
unfolding IsStrictlySortedBy
nothing = record { data_set = record { ascending = tt; classes = tt }; terms = tt }

pub versions : VersionsAreValid
versions history version is = version_all IsValidDataSet nothing history version is.data_sets

pub one_history : OneDataSetIsHistory
one_history triples is = record { data_sets = (is, tt); low = lit≤ tt; high = lit≤ tt }

-- ---- versions by their number

first_version : (triples : List Triple) (later : List (List Triple)) (version : ℕ) → version ≤ 1 → version_of (triples ∷ later) version ≡ triples
first_version triples later version low = ap (λ (b : Bool). if b then triples else version_of later (version - 1)) (within version low)
  where
    within : (n : ℕ) → n ≤ 1 → nat_le n 1 ≡ true
    within n h = grind (arith, nat_tests)

next_version : (triples : List Triple) (later : List (List Triple)) (version : ℕ) → 1 < version → version_of (triples ∷ later) version ≡ version_of later (version - 1)
next_version triples later version high = ap (λ (b : Bool). if b then triples else version_of later (version - 1)) (above version high)
  where
    above : (n : ℕ) → 1 < n → nat_le n 1 ≡ false
    above n h = grind (arith, nat_tests)

-- behind other data sets, the first has the number of these and one
last_version : (before : List (List Triple)) (triples : List Triple) → version_of (before ++ triples ∷ []) (length before + 1) ≡ triples
last_version [] triples = first_version triples [] (0 + 1) (lit≤ tt)
last_version (other ∷ before) triples =
    next_version other (before ++ triples ∷ []) (length (other ∷ before) + 1) (omega arith)
    ∙ ap (version_of (before ++ triples ∷ [])) (less (length before)) ∙ last_version before triples
  where
    less : (n : ℕ) → (suc n + 1) - 1 ≡ n + 1
    less n = omega arith

pub last_served : LastVersionIsServed
last_served history version triples is =
    let count : version ≡ length is.before + 1 = counted (length history) version (length is.before) is.count (ap (λ (h : List (List Triple)). length h) is.last ∙ length-append is.before (triples ∷ [])) in
    ap (λ (h : List (List Triple)). version_of h version) is.last ∙ ap (version_of (is.before ++ triples ∷ [])) count ∙ last_version is.before triples
  where
    counted : (n version before : ℕ) → n ≡ version → n ≡ before + 1 → version ≡ before + 1
    counted n version before a b = omega arith

pub versions_follow : VersionsFollow
versions_follow history version triples next = record {
  first = record { count = refl; before = []; last = refl };
  more = λ is. record { count = length-append history (next ∷ []) ∙ ap (λ (n : ℕ). n + 1) is.count; before = history; last = refl };
}

stay_case : (triples : List Triple) (later more : List (List Triple)) (version : ℕ) → (version ≤ length later + 1) → ((version - 1) ≤ length later → 1 ≤ length later → version_of (later ++ more) (version - 1) ≡ version_of later (version - 1))
    → version_of (triples ∷ (later ++ more)) version ≡ version_of (triples ∷ later) version
stay_case triples later more version within rest = elim (cases_lt 1 version) [
  | inl high ↦ next_version triples (later ++ more) version high ∙ rest (omega arith) (omega arith) ∙ sym (next_version triples later version high)
  | inr low ↦ first_version triples (later ++ more) version low ∙ sym (first_version triples later version low)
]

pub versions_stay : VersionsStay
versions_stay [] more version within some = absurd (omega arith)
versions_stay (triples ∷ later) more version within some =
    stay_case triples later more version (omega arith) (λ less some_left. versions_stay later more (version - 1) less some_left)
