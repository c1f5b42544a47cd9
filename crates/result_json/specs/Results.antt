-- The text of a result (SPARQL 1.1 Query Results JSON Format, section 3): the tokens of a JSON text, printed with no white space, and LF.
use Rattle.std.specs.Prelude.{ℕ, List, [], ◌∷◌, ◌++◌, Option, Some, None, codes, slice_get, unwrap_or, flat_map, map}
use Rattle.std.specs.FinMap.{FinMap, from_entries, values}
use Rattle.json.specs.Token.{Token, begin_object, end_object, begin_array, end_array, key, string}
use Rattle.json.specs.Print.{print}
use Rattle.rdf_terms.specs.declared.term.Term.{Term}
use Rattle.rdf_terms.specs.declared.term.Term.TheVariants.{Iri, Blank, Literal}
use Rattle.rdf_terms.specs.declared.term.Kind.{Kind}
use Rattle.rdf_terms.specs.declared.term.Kind.TheVariants.{Plain, Typed, Tagged}
use Rattle.rdf_terms.specs.Order.{bytes_order}
use Rattle.bgp_core.specs.Queries.{QueryData}
use Rattle.bgp_core.specs.Solutions.{term_at}

-- a member whose value is a string
abbrev pub text_member : List ℕ → List ℕ → List Token
text_member name text = key name ∷ string text ∷ []

abbrev pub datatype_member : Kind → List Token
datatype_member Plain = []
datatype_member (Typed datatype) = text_member (codes "datatype") datatype
datatype_member (Tagged tag) = []

abbrev pub tag_member : Kind → List Token
tag_member Plain = []
tag_member (Typed datatype) = []
tag_member (Tagged tag) = text_member (codes "xml:lang") tag

-- the members of a term, their keys in the order of their bytes (section 3.2.2)
abbrev pub term_members : Term → List Token
term_members (Iri text) = text_member (codes "type") (codes "uri") ++ text_member (codes "value") text
term_members (Blank label) = text_member (codes "type") (codes "bnode") ++ text_member (codes "value") label
term_members (Literal form kind) = datatype_member kind ++ text_member (codes "type") (codes "literal") ++ text_member (codes "value") form ++ tag_member kind

abbrev pub object_of : List Token → List Token
object_of members = begin_object ∷ [] ++ members ++ end_object ∷ []

abbrev pub array_of : List Token → List Token
array_of items = begin_array ∷ [] ++ items ++ end_array ∷ []

-- the text of the name with a number
abbrev pub name_at : List (List ℕ) → ℕ → List ℕ
name_at names n = unwrap_or (slice_get names n) []

-- each selected name with the number by which it is selected first, as an ordered map: its entries ascend strictly by the bytes of the names
abbrev pub first_numbers : List (List ℕ) → List ℕ → FinMap bytes_order ℕ
first_numbers names selected = from_entries (map (λ n. (name_at names n, n)) selected)

-- the columns of a query: its selected names by their numbers, each name once, in the order of their bytes
abbrev pub columns_of : QueryData → List ℕ
columns_of q = values (first_numbers q.names q.selected)

-- a member for a name that is bound
abbrev pub bound_member : List ℕ → Option Term → List Token
bound_member name (Some term) = key name ∷ [] ++ object_of (term_members term)
bound_member name None = []

-- a row as an object: a member for each column that it binds (section 3.2.1)
abbrev pub row_object : List (List ℕ) → List ℕ → List (Option Term) → List Token
row_object names columns row = object_of (flat_map (λ n. bound_member (name_at names n) (term_at row n)) columns)

-- the selected names as an array, in the order of the query (section 3.1.1)
unfoldable pub names_array : QueryData → List Token
names_array q = array_of (map (λ n. string (name_at q.names n)) q.selected)

unfoldable pub rows_array : QueryData → List (List (Option Term)) → List Token
rows_array q rows = array_of (flat_map (row_object q.names (columns_of q)) rows)

abbrev pub result_tokens : QueryData → List (List (Option Term)) → List Token
result_tokens q rows = object_of
    (key (codes "head") ∷ [] ++ object_of (key (codes "vars") ∷ [] ++ names_array q)
    ++ (key (codes "results") ∷ [] ++ object_of (key (codes "bindings") ∷ [] ++ rows_array q rows)))

-- the text of the result of a query with these rows
abbrev pub result_text : QueryData → List (List (Option Term)) → List ℕ
result_text q rows = print (result_tokens q rows) ++ 10 ∷ []
