-- The terms and names between the braces of a query, with the marks between them.
use Rattle.std.specs.Prelude.{ℕ, not, ◌&&◌, List, [], ◌∷◌, ◌++◌, codes, Option, Some, None, if◌then◌else◌, zero, suc, ⊤}
use Rattle.rdf_terms.specs.declared.term.Term.{Term}
use Rattle.rdf_terms.specs.declared.term.Term.TheVariants as terms
use Rattle.rdf_terms.specs.declared.term.Kind.TheVariants.{Plain, Tagged}
use Rattle.rdf_terms.specs.Iri.{is_iri}
use Rattle.rdf_terms.specs.Kinds.{typed_kind}
use Rattle.rdf_terms.specs.Datatype.{is_lang_string}
use Rattle.rdf_terms.specs.Tag.{is_tag, lower}
use Rattle.bgp_core.specs.declared.pattern.Part.{Part}
use Rattle.bgp_core.specs.declared.pattern.Part.TheVariants as parts
use Rattle.bgp_core.specs.Queries.{IsPartOf}
use Rattle.query_words.specs.declared.word.Value.{Value}
use Rattle.query_words.specs.declared.word.Value.TheVariants as values
use Rattle.query_words.specs.declared.word.Word.{Word}
use Rattle.pattern_parser.specs.declared.item.Item.{Item}
use Rattle.pattern_parser.specs.declared.item.Item.TheVariants as items
use Rattle.pattern_parser.specs.Prefixes.{iri_text}
use Rattle.pattern_parser.specs.Names.{name_text, number, with_name}

-- rdf:type, for which `a` stands
unfoldable pub rdf_type : List ℕ
rdf_type = codes "http://www.w3.org/1999/02/22-rdf-syntax-ns#type"

-- xsd:integer
unfoldable pub xsd_integer : List ℕ
xsd_integer = codes "http://www.w3.org/2001/XMLSchema#integer"

-- xsd:decimal
unfoldable pub xsd_decimal : List ℕ
xsd_decimal = codes "http://www.w3.org/2001/XMLSchema#decimal"

-- xsd:double
unfoldable pub xsd_double : List ℕ
xsd_double = codes "http://www.w3.org/2001/XMLSchema#double"

-- xsd:boolean
unfoldable pub xsd_boolean : List ℕ
xsd_boolean = codes "http://www.w3.org/2001/XMLSchema#boolean"

-- an IRI; a text with no scheme is refused before it comes here
abbrev pub iri_term : List ℕ → Term
iri_term t = if is_iri t then terms.Iri t else terms.Literal t Plain

-- a typed literal; other datatypes are refused before they come here
abbrev pub typed_term : List ℕ → List ℕ → Term
typed_term form d = if is_iri d && not (is_lang_string d) then terms.Literal form (typed_kind d) else terms.Literal form Plain

-- a literal with a language tag, in lower case
abbrev pub tagged_term : List ℕ → List ℕ → Term
tagged_term form t = if is_tag t then terms.Literal form (Tagged (lower t)) else terms.Literal form Plain

-- a string with the datatype that comes first
abbrev pub datatype_term : (List ℕ → Option (List ℕ)) → List ℕ → List Word → Term
datatype_term iri s [] = terms.Literal s Plain
datatype_term iri s (d ∷ ws) = typed_term s (iri_text iri d.value)

-- a string before a token and those after it
abbrev pub string_before : (List ℕ → Option (List ℕ)) → List ℕ → Value → List Word → Term
string_before iri s (values.Tag t) ws = tagged_term s t
string_before iri s values.Carets ws = datatype_term iri s ws
string_before iri s _ ws = terms.Literal s Plain

-- a string with the tag or the datatype that follows it
abbrev pub string_term : (List ℕ → Option (List ℕ)) → List ℕ → List Word → Term
string_term iri s [] = terms.Literal s Plain
string_term iri s (w ∷ ws) = string_before iri s w.value ws

-- the datatype of a token that is a number or a truth value
abbrev pub datatype_of : Value → List ℕ
datatype_of (values.Integer t) = xsd_integer
datatype_of (values.Decimal t) = xsd_decimal
datatype_of (values.Double t) = xsd_double
datatype_of _ = xsd_boolean

-- the term of a token that is no name, with those after it
abbrev pub term_of : (List ℕ → Option (List ℕ)) → Value → List Word → Option Term
term_of iri (values.Iri t) ws = Some (iri_term t)
term_of iri (values.Prefix n) ws = Some (iri_term (iri_text iri (values.Prefix n)))
term_of iri (values.Prefixed n l) ws = Some (iri_term (iri_text iri (values.Prefixed n l)))
term_of iri (values.Str s) ws = Some (string_term iri s ws)
term_of iri (values.Integer t) ws = Some (typed_term t xsd_integer)
term_of iri (values.Decimal t) ws = Some (typed_term t xsd_decimal)
term_of iri (values.Double t) ws = Some (typed_term t xsd_double)
term_of iri values.True ws = Some (typed_term (codes "true") xsd_boolean)
term_of iri values.False ws = Some (typed_term (codes "false") xsd_boolean)
term_of iri values.TypeWord ws = Some (iri_term rdf_type)
term_of iri _ ws = None

-- the number of a name, or else a term
abbrev pub name_or_term : List (List ℕ) → Option (List ℕ) → Option Term → Option Part
name_or_term names (Some t) o = Some (parts.Name (number names t))
name_or_term names None (Some t) = Some (parts.Fixed t)
name_or_term names None None = None

-- the term or name of a token, with those after it
abbrev pub part_of : (List ℕ → Option (List ℕ)) → List (List ℕ) → Value → List Word → Option Part
part_of iri names v ws = name_or_term names (name_text v) (term_of iri v ws)

-- how many tokens after a string belong to it
abbrev pub more_of : Value → ℕ
more_of (values.Tag t) = 1
more_of values.Carets = 2
more_of _ = 0

-- the same, by the tokens after the string
abbrev pub more_after : List Word → ℕ
more_after [] = 0
more_after (w ∷ ws) = more_of w.value

-- how many tokens after a token belong to it
abbrev pub more : Value → List Word → ℕ
more (values.Str s) ws = more_after ws
more _ ws = 0

-- the mark that a token is
abbrev pub mark_of : Value → List Item
mark_of values.Dot = items.Dot ∷ []
mark_of values.Semicolon = items.Semicolon ∷ []
mark_of values.Comma = items.Comma ∷ []
mark_of _ = []

-- a term or name at its place, or a mark
abbrev pub item_of : Option Part → ℕ → Value → List Item
item_of None at v = mark_of v
item_of (Some p) at v = items.Part p at ∷ []

-- the items of some tokens after names, of which so many belong to the token before
abbrev pub items_after : (List ℕ → Option (List ℕ)) → List (List ℕ) → ℕ → List Word → List Item
items_after iri names skip [] = []
items_after iri names (suc n) (w ∷ ws) = items_after iri names n ws
items_after iri names zero (w ∷ ws) = item_of (part_of iri names w.value ws) w.at w.value ++ items_after iri (with_name names (name_text w.value)) (more w.value ws) ws

-- the names after some tokens, of which so many belong to the token before
abbrev pub names_after : List (List ℕ) → ℕ → List Word → List (List ℕ)
names_after names skip [] = names
names_after names (suc n) (w ∷ ws) = names_after names n ws
names_after names zero (w ∷ ws) = names_after (with_name names (name_text w.value)) (more w.value ws) ws

-- the item's number of a name is below the count, and its term is no blank node
abbrev pub IsItemOf : ℕ → Item → Type 0
IsItemOf count (items.Part p at) = IsPartOf count p
IsItemOf count _ = ⊤
