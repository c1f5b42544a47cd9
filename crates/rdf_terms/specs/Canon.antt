-- Canonical text (N-Triples, "A Canonical form of N-Triples").
use Rattle.std.specs.Prelude.{ℕ, ◌+◌, Bool, ◌==◌, ◌||◌, List, [], ◌∷◌, ◌++◌, length, Option, Some, None, if◌then◌else◌}
use Rattle.rdf_terms.specs.declared.term.Quad.{Quad}
use Rattle.rdf_terms.specs.declared.term.Term.{Term}
use Rattle.rdf_terms.specs.declared.term.Term.TheVariants.{Iri, Blank, Literal}
use Rattle.rdf_terms.specs.declared.term.Kind.{Kind}
use Rattle.rdf_terms.specs.declared.term.Kind.TheVariants.{Plain, Typed, Tagged}

-- the bytes that are written with a backslash: ", \, LF and CR
abbrev pub is_marked : ℕ → Bool
is_marked b = (b == 34) || (b == 92) || (b == 10) || (b == 13)

-- what stands after the backslash
abbrev pub after_mark : ℕ → ℕ
after_mark b = if b == 10 then 110 else (if b == 13 then 114 else b)

-- a byte of a literal's form as it is written
abbrev pub canonical_byte : ℕ → List ℕ
canonical_byte b = if is_marked b then 92 ∷ after_mark b ∷ [] else b ∷ []

-- a form as it is written between its quotes
abbrev pub canonical_form : List ℕ → List ℕ
canonical_form [] = []
canonical_form (b ∷ bs) = canonical_byte b ++ canonical_form bs

-- what follows the closing quote: nothing, ^^ and the datatype in < >, or @ and the tag
abbrev pub canonical_kind : Kind → List ℕ
canonical_kind Plain = []
canonical_kind (Typed datatype) = 94 ∷ 94 ∷ 60 ∷ (datatype ++ 62 ∷ [])
canonical_kind (Tagged tag) = 64 ∷ tag

-- <iri>, _:label, or "form" and its kind
abbrev pub canonical_term : Term → List ℕ
canonical_term (Iri text) = 60 ∷ (text ++ 62 ∷ [])
canonical_term (Blank label) = 95 ∷ 58 ∷ label
canonical_term (Literal form kind) = 34 ∷ (canonical_form form ++ 34 ∷ canonical_kind kind)

-- a space and the graph, where there is one
abbrev pub canonical_graph : Option Term → List ℕ
canonical_graph None = []
canonical_graph (Some graph) = 32 ∷ canonical_term graph

-- the terms with a space after each, a dot and LF
abbrev pub canonical_line : Quad → List ℕ
canonical_line q = canonical_term q.triple.subject ++ 32 ∷ (canonical_term q.triple.predicate ++ 32 ∷ (canonical_term q.triple.object ++ canonical_graph q.graph ++ 32 ∷ 46 ∷ 10 ∷ []))

-- the lines of quads, one after another
abbrev pub canon : List Quad → List ℕ
canon [] = []
canon (q ∷ qs) = canonical_line q ++ canon qs

-- how many bytes are written with a backslash
abbrev pub marks : List ℕ → ℕ
marks [] = 0
marks (b ∷ bs) = (if is_marked b then 1 else 0) + marks bs

-- the length of `canonical_kind`
abbrev pub kind_len : Kind → ℕ
kind_len Plain = 0
kind_len (Typed datatype) = length datatype + 4
kind_len (Tagged tag) = length tag + 1

-- the length of `canonical_term`
abbrev pub canonical_len : Term → ℕ
canonical_len (Iri text) = length text + 2
canonical_len (Blank label) = length label + 2
canonical_len (Literal form kind) = length form + marks form + 2 + kind_len kind
