-- A data set of any size: persons who know one another, some with a name, some with a city.
use Rattle.std.specs.Prelude.{ℕ, ◌≡◌, ◌+◌, ◌*◌, ◌%◌, ◌==◌, List, [], ◌∷◌, ◌++◌, None, codes, decimal, if◌then◌else◌}
use Rattle.std.specs.List.{flat_map, range_with_len}
use Rattle.rdf_terms.specs.declared.term.Quad.{Quad}
use Rattle.rdf_terms.specs.declared.term.Term.{Term}
use Rattle.rdf_terms.specs.declared.term.Term.TheVariants.{Iri, Literal}
use Rattle.rdf_terms.specs.declared.term.Kind.TheVariants.{Plain}
use Rattle.rdf_terms.specs.Triples.{IsGroundTriple}

-- person number i
abbrev pub person : ℕ → Term
person i = Iri (codes "http://example.org/person/" ++ decimal i)

-- city number c
abbrev pub city : ℕ → Term
city c = Iri (codes "http://example.org/city/" ++ decimal c)

-- the literal "Person i"
abbrev pub name : ℕ → Term
name i = Literal (codes "Person " ++ decimal i) Plain

-- a quad in the default graph
abbrev pub statement : Term → Term → Term → Quad
statement s p o = record { triple = record { subject = s; predicate = p; object = o }; graph = None }

-- of n persons, person i knows person 7 * i + 1, counted round
unfoldable pub knows : ℕ → ℕ → Quad
knows n i = statement (person i) (Iri (codes "http://example.org/knows")) (person ((7 * i + 1) % n))

-- the name of a person, which every third has
unfoldable pub names : ℕ → List Quad
names i = if i % 3 == 0 then statement (person i) (Iri (codes "http://example.org/name")) (name i) ∷ [] else []

-- the city of a person, one of seven, which every tenth has
unfoldable pub cities : ℕ → List Quad
cities i = if i % 10 == 0 then statement (person i) (Iri (codes "http://example.org/city")) (city (i % 7)) ∷ [] else []

-- what is said of person i among n
unfoldable pub about : ℕ → ℕ → List Quad
about n i = knows n i ∷ (names i ++ cities i)

-- what is said of n persons, one after another, from person 0 on
unfoldable pub generated : ℕ → List Quad
generated n = flat_map (about n) (range_with_len 0 n)

-- a quad of the default graph without blank nodes, whose subject and predicate are IRIs
pub record IsGroundQuad (q : Quad) : Type 0 where
  pub triple : IsGroundTriple q.triple
  pub graph : q.graph ≡ None
