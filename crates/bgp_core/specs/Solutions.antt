-- Matching and solutions (SPARQL 1.1 Query, 18.3 and 18.5), over one list of triples.
use Rattle.std.specs.Prelude.{ℕ, List, [], ◌∷◌, ◌++◌, length, replicate, Option, Some, None, if◌then◌else◌, slice_get, slice_set}
use Rattle.std.specs.List.{flat_map, list_any}
use Rattle.rdf_terms.specs.Same.{term_eq, triple_eq}
use Rattle.rdf_terms.specs.declared.term.Term.{Term}
use Rattle.rdf_terms.specs.declared.term.Triple.{Triple}
use Rattle.bgp_core.specs.declared.pattern.Part.{Part}
use Rattle.bgp_core.specs.declared.pattern.Part.TheVariants.{Fixed, Name}
use Rattle.bgp_core.specs.declared.pattern.Pattern.{Pattern}
use Rattle.bgp_core.specs.Queries.{QueryData}

abbrev pub Places : Type 0
Places = List (Option Term)

abbrev pub joined : Option (Option Term) → Option Term
joined None = None
joined (Some o) = o

-- the term of a name, if it has a place and is bound
abbrev pub term_at : Places → ℕ → Option Term
term_at row n = joined (slice_get row n)

-- the row with a name bound to a term, where what stands at its place allows it
abbrev pub put : Option (Option Term) → ℕ → Term → Places → Option Places
put None n t row = None
put (Some None) n t row = Some (slice_set row n (Some t))
put (Some (Some u)) n t row = if term_eq u t then Some row else None

-- the row extended so that a part becomes a term
abbrev pub bind : Part → Term → Places → Option Places
bind (Fixed u) t row = if term_eq u t then Some row else None
bind (Name n) t row = put (slice_get row n) n t row

abbrev pub extended : Option Places → (Places → Option Places) → Option Places
extended None f = None
extended (Some row) f = f row

-- the row extended so that a pattern becomes a triple
unfoldable pub extension : Pattern → Places → Triple → Option Places
extension p row t = extended (extended (bind p.subject t.subject row) (bind p.predicate t.predicate)) (bind p.object t.object)

-- the rows that a function gives of a row, if there is one
abbrev pub rows_from : {A : Type 0} → Option Places → (Places → List A) → List A
rows_from None f = []
rows_from (Some row) f = f row

-- for each triple that the first pattern takes, the solutions of the others
abbrev pub solutions : List Triple → List Pattern → Places → List Places
solutions triples [] row = row ∷ []
solutions triples (p ∷ ps) row = flat_map (λ t. rows_from (extension p row t) (solutions triples ps)) triples

-- the row with a place for each name of a query, none of which is bound
abbrev pub no_names_bound : QueryData → Places
no_names_bound q = replicate (length q.names) None

-- the solutions of a query over a data set (SPARQL 1.1 Query, 18.5), each with all its names
abbrev pub solutions_of : List Triple → QueryData → List Places
solutions_of triples q = solutions triples q.patterns (no_names_bound q)

-- the triple, unless it stands before
abbrev pub unless_before : List Triple → Triple → List Triple
unless_before before t = if list_any (λ s. triple_eq s t) before then [] else t ∷ []

-- the triples of the rest that do not stand before, each once
abbrev pub distinct_after : List Triple → List Triple → List Triple
distinct_after before [] = []
distinct_after before (t ∷ ts) = unless_before before t ++ distinct_after (before ++ t ∷ []) ts

-- the distinct triples, in the order of their first places
abbrev pub distinct : List Triple → List Triple
distinct ts = distinct_after [] ts
