-- The solutions over triples in another order are the same in another order.
use Rattle.std.proofs.Common.{List, [], ◌∷◌, Option, Some, None}
use Rattle.std.specs.List.Sorted.{IsPermutation}
use Rattle.list_laws.proofs.Orders.{flat_map_IsPermutation, flat_map_each}
use Rattle.rdf_terms.specs.declared.term.Triple.{Triple}
use Rattle.bgp_core.specs.declared.pattern.Pattern.{Pattern}
use Rattle.bgp_core.specs.Solutions.{Places, extension, rows_from, solutions}
use Rattle.std.proofs.lemmas.List.Sorted.{IsPermutation-refl, IsPermutation-trans}

pub from-each : {A : Type 0} (o : Option Places) (f g : Places → List A) → ((row : Places) → IsPermutation (f row) (g row)) → IsPermutation (rows_from o f) (rows_from o g)
from-each None f g h = IsPermutation-refl _
from-each (Some row) f g h = h row

pub solutions-IsPermutation : (a b : List Triple) (ps : List Pattern) (row : Places) → IsPermutation a b → IsPermutation (solutions a ps row) (solutions b ps row)
solutions-IsPermutation a b [] row h = IsPermutation-refl _
solutions-IsPermutation a b (p ∷ ps) row h =
    IsPermutation-trans _ _ _
    (flat_map_IsPermutation (λ t. rows_from (extension p row t) (solutions a ps)) a b h)
    (flat_map_each (λ t. rows_from (extension p row t) (solutions a ps)) (λ t. rows_from (extension p row t) (solutions b ps)) b (λ t. from-each (extension p row t) (solutions a ps) (solutions b ps) (λ r. solutions-IsPermutation a b ps r h)))
