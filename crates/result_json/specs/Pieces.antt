-- The text of a result in pieces, as a writer makes it: what stands in front of the rows, the rows one by one, and the end.
use Rattle.std.specs.Prelude.{ℕ, ◌≡◌, Bool, true, false, List, [], ◌∷◌, ◌++◌, Option, codes, if◌then◌else◌}
use Rattle.json.specs.Token.{Token, begin_object, begin_array, key}
use Rattle.json.specs.Print.{print}
use Rattle.rdf_terms.specs.declared.term.Term.{Term}
use Rattle.bgp_core.specs.Queries.{QueryData}
use Rattle.result_json.specs.Results.{object_of, columns_of, names_array, row_object, result_text}

unfoldable pub head_tokens : QueryData → List Token
head_tokens q = key (codes "head") ∷ [] ++ object_of (key (codes "vars") ∷ [] ++ names_array q)

-- what opens the array of the rows
unfoldable pub opening : List Token
opening = key (codes "results") ∷ begin_object ∷ key (codes "bindings") ∷ begin_array ∷ []

-- the tokens in front of the rows
abbrev pub front_tokens : QueryData → List Token
front_tokens q = begin_object ∷ [] ++ head_tokens q ++ opening

abbrev pub front_text : QueryData → List ℕ
front_text q = print (front_tokens q)

-- a row, and a comma before it where others stand in front
abbrev pub row_piece : QueryData → Bool → List (Option Term) → List ℕ
row_piece q follows row = (if follows then codes "," else []) ++ print (row_object q.names (columns_of q) row)

-- rows one after another
abbrev pub rows_text : QueryData → Bool → List (List (Option Term)) → List ℕ
rows_text q follows [] = []
rows_text q follows (row ∷ rows) = row_piece q follows row ++ rows_text q true rows

abbrev pub end_text : List ℕ
end_text = codes "]}}\n"

-- whether a row stands in front of what comes after these
abbrev pub after_rows : Bool → List (List (Option Term)) → Bool
after_rows follows [] = follows
after_rows follows (row ∷ rows) = true

-- a writer: the query, whether it was given a row, and the bytes that no sink was given yet
pub record Writing : Type 0 where
  pub query : QueryData
  pub has_rows : Bool
  pub pending : List ℕ

-- no row was given yet, and what stands in front of the rows is pending
abbrev pub begun : QueryData → Writing
begun q = record { query = q; has_rows = false; pending = front_text q }

-- a row was given
abbrev pub with_row : Writing → List (Option Term) → Writing
with_row w row = record { query = w.query; has_rows = true; pending = w.pending ++ row_piece w.query w.has_rows row }

-- the end was given
abbrev pub with_end : Writing → Writing
with_end w = record { query = w.query; has_rows = w.has_rows; pending = w.pending ++ end_text }

-- all that was pending was given to a sink
abbrev pub with_nothing_pending : Writing → Writing
with_nothing_pending w = record { query = w.query; has_rows = w.has_rows; pending = [] }

-- ---- the laws

-- the text of a result is made of its pieces
abbrev pub PiecesMakeTheText : Type 0
PiecesMakeTheText = (q : QueryData) (rows : List (List (Option Term))) → result_text q rows ≡ front_text q ++ rows_text q false rows ++ end_text

-- rows and then more of them are the ones and then the others, with a comma between
abbrev pub RowsGoOn : Type 0
RowsGoOn = (q : QueryData) (follows : Bool) (rows more : List (List (Option Term))) →
    rows_text q follows (rows ++ more) ≡ rows_text q follows rows ++ rows_text q (after_rows follows rows) more
