-- Which words between the braces of a query are one term, name or mark, and what each stands for as it is written (SPARQL 1.1, sections 4.1 and 19.8).
use Rattle.std.specs.Prelude.{ℕ, ◌≡◌, ◌⊎◌, true, false, List, [], ◌∷◌, ◌++◌, map, codes, Option, Some, ⊤}
use Rattle.rdf_terms.specs.declared.term.Term.{Term}
use Rattle.rdf_terms.specs.declared.term.Term.TheVariants as terms
use Rattle.rdf_terms.specs.declared.term.Kind.TheVariants.{Plain, Typed, Tagged}
use Rattle.rdf_terms.specs.Iri.{is_iri}
use Rattle.rdf_terms.specs.Kinds.{typed_kind}
use Rattle.rdf_terms.specs.Datatype.{is_lang_string}
use Rattle.rdf_terms.specs.Tag.{is_tag, lower}
use Rattle.bgp_core.specs.declared.pattern.Part.{Part}
use Rattle.bgp_core.specs.declared.pattern.Part.TheVariants as parts
use Rattle.bgp_core.specs.Queries.{QueryData}
use Rattle.query_words.specs.declared.word.Value.{Value}
use Rattle.query_words.specs.declared.word.Value.TheVariants as values
use Rattle.query_words.specs.declared.word.Word.{Word}
use Rattle.pattern_parser.specs.declared.item.Item.{Item}
use Rattle.pattern_parser.specs.declared.item.Item.TheVariants as items
use Rattle.pattern_parser.specs.Names.{name_text, number, with_name}
use Rattle.pattern_parser.specs.Items.{rdf_type, xsd_integer, xsd_decimal, xsd_double, xsd_boolean, items_after}
use Rattle.pattern_parser.specs.Queries.{prefixes, body, block, select_names, ReadsQuery}

-- the text of an IRI as it is written: its own, or that of the declared prefix with the local part
abbrev pub Spells : (List ℕ → Option (List ℕ)) → Value → List ℕ → Type 0
Spells iri (values.Iri t) text = text ≡ t
Spells iri (values.Prefix n) text = iri n ≡ Some text
Spells iri (values.Prefixed n l) text = (front : List ℕ) × (iri n ≡ Some front) × (text ≡ front ++ l)
Spells iri _ text = ⊥

-- the token is an IRI of this text, which has a scheme
pub record IsIriText (iri : List ℕ → Option (List ℕ)) (v : Value) (text : List ℕ) : Type 0 where
  pub spells : Spells iri v text
  pub scheme : is_iri text ≡ true

-- the token stands for the IRI
abbrev pub IsIriTerm : (List ℕ → Option (List ℕ)) → Value → Term → Type 0
IsIriTerm iri v t = (text : List ℕ) × IsIriText iri v text × (t ≡ terms.Iri text)

-- a string with a language tag, which is kept in lower case
pub record IsTagged (s : List ℕ) (w : Word) (t : Term) : Type 0 where
  pub tag : List ℕ
  pub written : w.value ≡ values.Tag tag
  pub good : is_tag tag ≡ true
  pub is : t ≡ terms.Literal s (Tagged (lower tag))

-- a string with '^^' and an IRI, which is not rdf:langString
pub record IsTyped (iri : List ℕ → Option (List ℕ)) (s : List ℕ) (c d : Word) (t : Term) : Type 0 where
  pub carets : c.value ≡ values.Carets
  pub text : List ℕ
  pub datatype : IsIriText iri d.value text
  pub other : is_lang_string text ≡ false
  pub is : t ≡ terms.Literal s (typed_kind text)

-- a token and those after it are, all of them, this term: iri, RDFLiteral, NumericLiteral, BooleanLiteral or the verb `a`
abbrev pub IsTermOf : (List ℕ → Option (List ℕ)) → Value → List Word → Term → Type 0
IsTermOf iri (values.Iri u) [] t = IsIriTerm iri (values.Iri u) t
IsTermOf iri (values.Prefix n) [] t = IsIriTerm iri (values.Prefix n) t
IsTermOf iri (values.Prefixed n l) [] t = IsIriTerm iri (values.Prefixed n l) t
IsTermOf iri (values.Str s) [] t = t ≡ terms.Literal s Plain
IsTermOf iri (values.Str s) (w ∷ []) t = IsTagged s w t
IsTermOf iri (values.Str s) (c ∷ d ∷ []) t = IsTyped iri s c d t
IsTermOf iri (values.Integer form) [] t = t ≡ terms.Literal form (Typed xsd_integer)
IsTermOf iri (values.Decimal form) [] t = t ≡ terms.Literal form (Typed xsd_decimal)
IsTermOf iri (values.Double form) [] t = t ≡ terms.Literal form (Typed xsd_double)
IsTermOf iri values.True [] t = t ≡ terms.Literal (codes "true") (Typed xsd_boolean)
IsTermOf iri values.False [] t = t ≡ terms.Literal (codes "false") (Typed xsd_boolean)
IsTermOf iri values.TypeWord [] t = t ≡ terms.Iri rdf_type
IsTermOf iri _ _ t = ⊥

-- a name with its number after these names
pub record IsNameOf (names : List (List ℕ)) (v : Value) (ws : List Word) (p : Part) : Type 0 where
  pub text : List ℕ
  pub alone : ws ≡ []
  pub written : name_text v ≡ Some text
  pub is : p ≡ parts.Name (number names text)

-- a mark
abbrev pub IsMark : Value → List Word → Item → Type 0
IsMark values.Dot [] i = i ≡ items.Dot
IsMark values.Semicolon [] i = i ≡ items.Semicolon
IsMark values.Comma [] i = i ≡ items.Comma
IsMark _ _ i = ⊥

-- a name or a term
abbrev pub IsPart : (List ℕ → Option (List ℕ)) → List (List ℕ) → Value → List Word → Part → Type 0
IsPart iri names v ws p = IsNameOf names v ws p ⊎ ((t : Term) × IsTermOf iri v ws t × (p ≡ parts.Fixed t))

-- these words are, all of them, one item: a mark, or a name or term at the place of its first token
abbrev pub IsItem : (List ℕ → Option (List ℕ)) → List (List ℕ) → List Word → Item → Type 0
IsItem iri names [] i = ⊥
IsItem iri names (w ∷ ws) i = IsMark w.value ws i ⊎ ((p : Part) × IsPart iri names w.value ws p × (i ≡ items.Part p w.at))

-- the names after the words of one item
abbrev pub names_with : List (List ℕ) → List Word → List (List ℕ)
names_with names [] = names
names_with names (w ∷ ws) = with_name names (name_text w.value)

-- one item after another, each with its words
abbrev pub AreItems : (List ℕ → Option (List ℕ)) → List (List ℕ) → List (List Word × Item) → Type 0
AreItems iri names [] = ⊤
AreItems iri names (g ∷ gs) = IsItem iri names g.0 g.1 × AreItems iri (names_with names g.0) gs

-- the words of these items
abbrev pub words_in : List (List Word × Item) → List Word
words_in [] = []
words_in (g ∷ gs) = g.0 ++ words_in gs

-- between the braces stand these items, each with its words, and no others
pub record IsWritten (iri : List ℕ → Option (List ℕ)) (names : List (List ℕ)) (ws : List Word) (is : List Item) : Type 0 where
  pub open_brace : Word
  pub close_brace : Word
  pub groups : List (List Word × Item)
  pub opens : open_brace.value ≡ values.OpenBrace
  pub closes : close_brace.value ≡ values.CloseBrace
  pub words : ws ≡ open_brace ∷ (words_in groups ++ close_brace ∷ [])
  pub items_are : is ≡ map (λ g. g.1) groups
  pub each : AreItems iri names groups

-- in a query each item is what its words say: no IRI, datatype or tag is dropped
abbrev pub TermsAsWritten : Type 0
TermsAsWritten = (text : List ℕ) (q : QueryData) (r : ReadsQuery text q) → IsWritten (prefixes r.words) (select_names (body r.words)) (block (body r.words)) (items_after (prefixes r.words) (select_names (body r.words)) 0 (block (body r.words)))
