-- Laws of matching and solutions, on which evaluations in another order rest.
use Rattle.std.specs.Prelude.{ℕ, ◌≡◌, ◌<◌, true, List, length, Some, slice_index_or}
use Rattle.std.specs.List.{flat_map, filter, remove}
use Rattle.std.specs.List.Sorted.{IsPermutation}
use Rattle.rdf_terms.specs.Slots.{matches}
use Rattle.rdf_terms.specs.Triples.{IsDataSet}
use Rattle.rdf_terms.specs.declared.term.Triple.{Triple}
use Rattle.bgp_core.specs.declared.pattern.Pattern.{Pattern}
use Rattle.bgp_core.specs.Queries.{HasPlacesFor}
use Rattle.bgp_core.specs.Solutions.{Places, extended, extension, rows_from, solutions, distinct}
use Rattle.bgp_core.specs.Extends.{Extends}
use Rattle.bgp_core.specs.Instances.{instance}

-- the order of the triples changes the order of the solutions alone
abbrev pub TripleOrderIsFree : Type 0
TripleOrderIsFree = (a b : List Triple) (patterns : List Pattern) (row : Places) → IsPermutation a b →
    IsPermutation (solutions a patterns row) (solutions b patterns row)

-- the order of the patterns changes the order of the solutions alone
abbrev pub PatternOrderIsFree : Type 0
PatternOrderIsFree = (triples : List Triple) (ps qs : List Pattern) (row : Places) → IsPermutation ps qs →
    IsPermutation (solutions triples ps row) (solutions triples qs row)

-- the solutions are those of any one of the patterns, and then of the others
abbrev pub AnyPatternGoesFirst : Type 0
AnyPatternGoesFirst = (triples : List Triple) (ps : List Pattern) (i : ℕ) (p : Pattern) (row : Places) →
    i < length ps → p ≡ slice_index_or ps i p →
    IsPermutation (solutions triples ps row) (flat_map (λ t. rows_from (extension p row t) (solutions triples (remove ps i))) triples)

-- two patterns extend a row by two triples in either order
abbrev pub ExtensionsCommute : Type 0
ExtensionsCommute = (p q : Pattern) (t s : Triple) (row : Places) →
    extended (extension p row t) (λ r. extension q r s) ≡ extended (extension q row s) (λ r. extension p r t)

-- what a pattern and a triple make of a row is the row extended so that the pattern becomes the triple
abbrev pub ExtensionsExtend : Type 0
ExtensionsExtend = (p : Pattern) (row : Places) (t : Triple) (new : Places) → extension p row t ≡ Some new → Extends p row t new

-- where a row has a place for each name of a pattern, there is no other extension of it
abbrev pub NoOthersExtend : Type 0
NoOthersExtend = (p : Pattern) (row : Places) (t : Triple) (new : Places) → HasPlacesFor (length row) p → Extends p row t new →
    extension p row t ≡ Some new

-- the distinct triples of a data set are the data set itself
abbrev pub DataSetsAreDistinct : Type 0
DataSetsAreDistinct = (triples : List Triple) → IsDataSet triples → distinct triples ≡ triples

-- a pattern under a row takes only triples that its instance matches
abbrev pub ExtensionsMatch : Type 0
ExtensionsMatch = (p : Pattern) (row : Places) (t : Triple) (new : Places) → extension p row t ≡ Some new → matches (instance p row) t ≡ true

-- so it may go over the fragment of its instance in place of all triples
abbrev pub FragmentsSuffice : Type 0
FragmentsSuffice = (p : Pattern) (row : Places) (triples items : List Triple) (rows : Places → List Places) → IsPermutation (filter (matches (instance p row)) triples) items →
    IsPermutation (flat_map (λ t. rows_from (extension p row t) rows) triples) (flat_map (λ t. rows_from (extension p row t) rows) items)
