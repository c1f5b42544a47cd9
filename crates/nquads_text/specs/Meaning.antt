-- What a statement as written means: its escapes are resolved, xsd:string is left out, and its tags are in lower case.
use Rattle.std.specs.Prelude.{ℕ, ◌≡◌, ◌⊎◌, ◌+◌, ◌*◌, Bool, true, false, not, ◌==◌, ◌&&◌, ◌||◌, nat_lt, List, [], ◌∷◌, ◌++◌, Option, Some, None, if◌then◌else◌}
use Rattle.std.specs.Char.{encode_utf8, digit_value}
use Rattle.list_laws.specs.Options.{when, ◌>>=◌}
use Rattle.rdf_terms.specs.Iri.{is_between, is_iri_byte}
use Rattle.rdf_terms.specs.Tag.{lower}
use Rattle.rdf_terms.specs.Kinds.{typed_kind}
use Rattle.rdf_terms.specs.declared.term.Quad.{Quad}
use Rattle.rdf_terms.specs.declared.term.Term.{Term}
use Rattle.rdf_terms.specs.declared.term.Term.TheVariants.{Iri, Blank, Literal}
use Rattle.rdf_terms.specs.declared.term.Kind.{Kind}
use Rattle.rdf_terms.specs.declared.term.Kind.TheVariants.{Plain, Typed, Tagged}
use Rattle.nquads_text.specs.Grammar.{IsIriItem, IsFormItem, all_of, Each}

-- ---- items

-- what a backslash and b stand for
abbrev pub short_value : ℕ → ℕ
short_value b = if b == 116 then 9 else (if b == 98 then 8 else (if b == 110 then 10 else (if b == 114 then 13 else (if b == 102 then 12 else b))))

-- the number that hexadecimal digits write, after those that write v
abbrev pub hex_value : ℕ → List ℕ → ℕ
hex_value v [] = v
hex_value v (digit ∷ digits) = hex_value (v * 16 + digit_value digit) digits

-- no surrogate, and at most U+10FFFF
abbrev pub is_scalar : ℕ → Bool
is_scalar c = nat_lt c 0xD800 || is_between 0xE000 0x10FFFF c

-- whether a numeric escape may name c, in an IRI or in a string
abbrev pub is_nameable : Bool → ℕ → Bool
is_nameable iri c = is_scalar c && (not iri || is_iri_byte c)

-- the character with this number, or nothing where no escape may name it
abbrev pub named : Bool → ℕ → Option (List ℕ)
named iri c = when (is_nameable iri c) (encode_utf8 c)

-- the text that an item stands for, or nothing where its escape names what it may not
abbrev pub item_value : Bool → List ℕ → Option (List ℕ)
item_value iri [] = Some []
item_value iri (b ∷ []) = Some (b ∷ [])
item_value iri (b ∷ c ∷ digits) = if (c == 117) || (c == 85) then named iri (hex_value 0 digits) else Some (short_value c ∷ [])

-- the texts of items, one after another, or nothing where one has none
abbrev pub items_value : Bool → List (List ℕ) → Option (List ℕ)
items_value iri [] = Some []
items_value iri (item ∷ items) = item_value iri item >>= λ text. items_value iri items >>= λ more. Some (text ++ more)

-- ---- texts

-- an item of an IRI, or of a string
abbrev pub IsItem : Bool → List ℕ → Type 0
IsItem true item = IsIriItem item
IsItem false item = IsFormItem item

-- the text that items mean, in an IRI or in a string
abbrev pub MeansText : Bool → List ℕ → List ℕ → Type 0
MeansText iri bytes text = (items : List (List ℕ)) × Each (IsItem iri) items × (bytes ≡ all_of items) × (items_value iri items ≡ Some text)

-- an escape among the items names what it may not
abbrev pub HasBadEscape : Bool → List ℕ → Type 0
HasBadEscape iri bytes = (items : List (List ℕ)) × Each (IsItem iri) items × (bytes ≡ all_of items) × (items_value iri items ≡ None)

-- ---- terms and statements: as written, and as meant

abbrev pub MeansKind : Kind → Kind → Type 0
MeansKind Plain kind = kind ≡ Plain
MeansKind (Typed datatype) kind = (text : List ℕ) × MeansText true datatype text × (kind ≡ typed_kind text)
MeansKind (Tagged tag) kind = kind ≡ Tagged (lower tag)

abbrev pub MeansTerm : Term → Term → Type 0
MeansTerm (Iri bytes) term = (text : List ℕ) × MeansText true bytes text × (term ≡ Iri text)
MeansTerm (Blank label) term = term ≡ Blank label
MeansTerm (Literal form kind) term = (text : List ℕ) × (meant : Kind) × MeansText false form text × MeansKind kind meant × (term ≡ Literal text meant)

abbrev pub MeansGraph : Option Term → Option Term → Type 0
MeansGraph None graph = graph ≡ None
MeansGraph (Some written) graph = (term : Term) × MeansTerm written term × (graph ≡ Some term)

pub record MeansQuad (written q : Quad) : Type 0 where
  pub subject : MeansTerm written.triple.subject q.triple.subject
  pub predicate : MeansTerm written.triple.predicate q.triple.predicate
  pub object : MeansTerm written.triple.object q.triple.object
  pub graph : MeansGraph written.graph q.graph

-- some text of the statement has a bad escape
abbrev pub KindIsBad : Kind → Type 0
KindIsBad Plain = ⊥
KindIsBad (Typed datatype) = HasBadEscape true datatype
KindIsBad (Tagged tag) = ⊥

abbrev pub TermIsBad : Term → Type 0
TermIsBad (Iri bytes) = HasBadEscape true bytes
TermIsBad (Blank label) = ⊥
TermIsBad (Literal form kind) = HasBadEscape false form ⊎ KindIsBad kind

abbrev pub GraphIsBad : Option Term → Type 0
GraphIsBad None = ⊥
GraphIsBad (Some graph) = TermIsBad graph

abbrev pub QuadIsBad : Quad → Type 0
QuadIsBad q = TermIsBad q.triple.subject ⊎ (TermIsBad q.triple.predicate ⊎ (TermIsBad q.triple.object ⊎ GraphIsBad q.graph))
