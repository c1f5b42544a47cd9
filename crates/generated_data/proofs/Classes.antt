-- The classes of the generated quads.
use Rattle.std.proofs.Common.{ℕ, List, [], ◌∷◌, ◌==◌, ◌%◌, refl}
use Rattle.std.specs.List.{AllByRecursion, flat_map, range_with_len}
use Rattle.list_laws.proofs.Each.{all_append, all_if}
use Rattle.rdf_terms.specs.declared.term.Quad.{Quad}
use Rattle.rdf_terms.specs.Triples.{IsRdfQuad}
use Rattle.generated_data.specs.Generated.{knows, names, cities, about, generated, IsGroundQuad}

-- what holds of the quads about each person
all_about : (P : Quad → Type 0) (n : ℕ) → ((i : ℕ) → AllByRecursion P (about n i)) → (is : List ℕ) → AllByRecursion P (flat_map (about n) is)
all_about P n each [] = tt
all_about P n each (i ∷ is) = all_append P (about n i) (flat_map (about n) is) (each i) (all_about P n each is)

ground_about : (n i : ℕ) → AllByRecursion IsGroundQuad (about n i)
unfolding about knows names cities
ground_about n i = (
  record { triple = record { subject = tt; predicate = tt; object = tt }; graph = refl },
  all_append IsGroundQuad (names i) (cities i)
      (all_if IsGroundQuad (i % 3 == 0) _ (record { triple = record { subject = tt; predicate = tt; object = tt }; graph = refl }))
      (all_if IsGroundQuad (i % 10 == 0) _ (record { triple = record { subject = tt; predicate = tt; object = tt }; graph = refl })),
)

rdf_about : (n i : ℕ) → AllByRecursion IsRdfQuad (about n i)
unfolding about knows names cities
rdf_about n i = (
  record { triple = record { subject = tt; predicate = tt }; graph = tt },
  all_append IsRdfQuad (names i) (cities i)
      (all_if IsRdfQuad (i % 3 == 0) _ (record { triple = record { subject = tt; predicate = tt }; graph = tt }))
      (all_if IsRdfQuad (i % 10 == 0) _ (record { triple = record { subject = tt; predicate = tt }; graph = tt })),
)

pub all_are_rdf : (n : ℕ) → AllByRecursion IsRdfQuad (generated n)
unfolding generated
all_are_rdf n = all_about IsRdfQuad n (rdf_about n) (range_with_len 0 n)

pub all_are_ground : (n : ℕ) → AllByRecursion IsGroundQuad (generated n)
unfolding generated
all_are_ground n = all_about IsGroundQuad n (ground_about n) (range_with_len 0 n)
