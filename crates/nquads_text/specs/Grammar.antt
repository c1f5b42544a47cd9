-- The grammar of N-Quads on the bytes of a line (RDF 1.1 N-Quads 4). All that an item of an IRI or a string may not be is
-- ASCII, so a byte stands for its character. A statement is seen with its texts as they are written, escapes and all.
use Rattle.std.specs.Prelude.{ℕ, ◌≡◌, ◌⊎◌, Bool, true, not, ◌==◌, ◌||◌, List, [], ◌∷◌, ◌++◌, length, Option, Some, None}
use Rattle.std.specs.List.{list_all}
use Rattle.rdf_terms.specs.Iri.{is_between, is_digit, is_iri_byte}
use Rattle.rdf_terms.specs.Label.{is_label}
use Rattle.rdf_terms.specs.Tag.{is_tag}
use Rattle.rdf_terms.specs.Triples.{IsRdfQuad}
use Rattle.rdf_terms.specs.declared.term.Quad.{Quad}
use Rattle.rdf_terms.specs.declared.term.Term.{Term}
use Rattle.rdf_terms.specs.declared.term.Term.TheVariants.{Iri, Blank, Literal}
use Rattle.rdf_terms.specs.declared.term.Kind.{Kind}
use Rattle.rdf_terms.specs.declared.term.Kind.TheVariants.{Plain, Typed, Tagged}

-- ---- characters

-- a space or a tab
abbrev pub is_blank : ℕ → Bool
is_blank b = (b == 32) || (b == 9)

-- HEX: 0 to 9, A to F, a to f
abbrev pub is_hex : ℕ → Bool
is_hex b = is_digit b || is_between 65 70 b || is_between 97 102 b

-- no quote, backslash, LF and CR
abbrev pub is_form_byte : ℕ → Bool
is_form_byte b = not ((b == 34) || (b == 92) || (b == 10) || (b == 13))

-- ECHAR after its backslash: t b n r f " ' \
abbrev pub is_short_escape : ℕ → Bool
is_short_escape b = (b == 116) || (b == 98) || (b == 110) || (b == 114) || (b == 102) || (b == 34) || (b == 39) || (b == 92)

-- ---- items

-- so many hexadecimal digits
pub record AreDigits (n : ℕ) (bytes : List ℕ) : Type 0 where
  pub count : length bytes ≡ n
  pub each : list_all is_hex bytes ≡ true

-- UCHAR: \u and four digits, or \U and eight
abbrev pub IsNumeric : List ℕ → Type 0
IsNumeric item = (digits : List ℕ) × (((item ≡ 92 ∷ 117 ∷ digits) × AreDigits 4 digits) ⊎ ((item ≡ 92 ∷ 85 ∷ digits) × AreDigits 8 digits))

-- of an IRI
abbrev pub IsIriItem : List ℕ → Type 0
IsIriItem item = ((b : ℕ) × (item ≡ b ∷ []) × (is_iri_byte b ≡ true)) ⊎ IsNumeric item

-- of a string
abbrev pub IsFormItem : List ℕ → Type 0
IsFormItem item = ((b : ℕ) × (item ≡ b ∷ []) × (is_form_byte b ≡ true)) ⊎ (((b : ℕ) × (item ≡ 92 ∷ b ∷ []) × (is_short_escape b ≡ true)) ⊎ IsNumeric item)

-- these items, one after another
abbrev pub all_of : List (List ℕ) → List ℕ
all_of [] = []
all_of (item ∷ items) = item ++ all_of items

abbrev pub Each : (List ℕ → Type 0) → List (List ℕ) → Type 0
Each P [] = Unit {0}
Each P (item ∷ items) = P item × Each P items

-- any number of items
abbrev pub AreItems : (List ℕ → Type 0) → List ℕ → Type 0
AreItems P bytes = (items : List (List ℕ)) × Each P items × (bytes ≡ all_of items)

-- ---- terminals: bytes are the terminal with this text, and then rest

-- IRIREF: <, items, >
abbrev pub ReadsIri : List ℕ → List ℕ → List ℕ → Type 0
ReadsIri bytes text rest = AreItems IsIriItem text × (bytes ≡ 60 ∷ (text ++ 62 ∷ rest))

-- STRING_LITERAL_QUOTE: ", items, "
abbrev pub ReadsForm : List ℕ → List ℕ → List ℕ → Type 0
ReadsForm bytes text rest = AreItems IsFormItem text × (bytes ≡ 34 ∷ (text ++ 34 ∷ rest))

-- BLANK_NODE_LABEL: _: and the longest label, so that it with more of what follows is none
pub record ReadsLabel (bytes label rest : List ℕ) : Type 0 where
  pub written : bytes ≡ 95 ∷ 58 ∷ (label ++ rest)
  pub is_one : is_label label ≡ true
  pub longest : (more later : List ℕ) → rest ≡ more ++ later → is_label (label ++ more) ≡ true → more ≡ []

-- LANGTAG: @ and a tag
abbrev pub ReadsTag : List ℕ → List ℕ → List ℕ → Type 0
ReadsTag bytes tag rest = (bytes ≡ 64 ∷ (tag ++ rest)) × (is_tag tag ≡ true)

-- any number of blanks, and then rest
abbrev pub SkipsBlanks : List ℕ → List ℕ → Type 0
SkipsBlanks bytes rest = (blanks : List ℕ) × (bytes ≡ blanks ++ rest) × (list_all is_blank blanks ≡ true)

-- ---- terms

-- ^^ and an IRI, with blanks round it
abbrev pub ReadsDatatype : List ℕ → List ℕ → List ℕ → Type 0
ReadsDatatype bytes text rest = (after : List ℕ) × (iri : List ℕ) × SkipsBlanks bytes (94 ∷ 94 ∷ after) × SkipsBlanks after iri × ReadsIri iri text rest

-- what may follow a string: nothing, a datatype, or a tag
abbrev pub ReadsKind : List ℕ → Kind → List ℕ → Type 0
ReadsKind bytes Plain rest = bytes ≡ rest
ReadsKind bytes (Typed text) rest = ReadsDatatype bytes text rest
ReadsKind bytes (Tagged tag) rest = ReadsTag bytes tag rest

-- an IRI, a blank node, or a literal
abbrev pub ReadsTerm : List ℕ → Term → List ℕ → Type 0
ReadsTerm bytes (Iri text) rest = ReadsIri bytes text rest
ReadsTerm bytes (Blank label) rest = ReadsLabel bytes label rest
ReadsTerm bytes (Literal form kind) rest = (after : List ℕ) × ReadsForm bytes form after × ReadsKind after kind rest

-- a graph, or none
abbrev pub ReadsGraph : List ℕ → Option Term → List ℕ → Type 0
ReadsGraph bytes None rest = bytes ≡ rest
ReadsGraph bytes (Some graph) rest = ReadsTerm bytes graph rest

-- ---- lines

-- nothing, or # and anything
abbrev pub IsComment : List ℕ → Type 0
IsComment bytes = (bytes ≡ []) ⊎ ((text : List ℕ) × (bytes ≡ 35 ∷ text))

-- blanks, and then nothing or a comment
abbrev pub HasNoStatement : List ℕ → Type 0
HasNoStatement line = (comment : List ℕ) × SkipsBlanks line comment × IsComment comment

-- statement: subject predicate object graph? '.', with blanks before and after each; a comment may follow
pub record IsStatement (line : List ℕ) (q : Quad) : Type 0 where
  pub from_subject : List ℕ
  pub after_subject : List ℕ
  pub from_predicate : List ℕ
  pub after_predicate : List ℕ
  pub from_object : List ℕ
  pub after_object : List ℕ
  pub from_graph : List ℕ
  pub after_graph : List ℕ
  pub after_dot : List ℕ
  pub begins : SkipsBlanks line from_subject
  pub subject : ReadsTerm from_subject q.triple.subject after_subject
  pub blanks_1 : SkipsBlanks after_subject from_predicate
  pub predicate : ReadsTerm from_predicate q.triple.predicate after_predicate
  pub blanks_2 : SkipsBlanks after_predicate from_object
  pub object : ReadsTerm from_object q.triple.object after_object
  pub blanks_3 : SkipsBlanks after_object from_graph
  pub graph : ReadsGraph from_graph q.graph after_graph
  pub blanks_4 : SkipsBlanks after_graph (46 ∷ after_dot)
  pub over : HasNoStatement after_dot
  pub classes : IsRdfQuad q
