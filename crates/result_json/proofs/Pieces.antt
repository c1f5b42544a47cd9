-- The text of a result is made of its pieces.
use Rattle.std.proofs.Common.{ℕ, ◌≡◌, Bool, true, false, List, [], ◌∷◌, ◌++◌, Option, codes, flat_map, fold, refl, sym, ap, ◌∙◌, append_assoc, if◌then◌else◌}
use Rattle.json.specs.Token.{Token, begin_object, end_object, begin_array, end_array, key}
use Rattle.json.specs.Print.{print, print_from, ends}
use Rattle.json.proofs.Printed.Tokens.{print_from-append}
use Rattle.rdf_terms.specs.declared.term.Term.{Term}
use Rattle.bgp_core.specs.Queries.{QueryData}
use Rattle.bgp_core.specs.Solutions.{term_at}
use Rattle.result_json.specs.Results.{row_object, bound_member, name_at, columns_of, rows_array, names_array, result_tokens, result_text}
use Rattle.result_json.specs.Pieces.{front_tokens, head_tokens, opening, front_text, row_piece, rows_text, end_text, after_rows, PiecesMakeTheText, RowsGoOn}

closed : (after : Bool) (ts : List Token) → fold (λ _ t. ends t) after (ts ++ end_object ∷ []) ≡ true
closed after [] = refl
closed after (t ∷ ts) = closed (ends t) ts

still : (rows : List (List (Option Term))) → after_rows true rows ≡ true
still [] = refl
still (row ∷ rows) = refl

-- an object after others, or as the first
object_text : (follows : Bool) (ts : List Token) → print_from follows (begin_object ∷ ts) ≡ (if follows then codes "," else []) ++ print (begin_object ∷ ts)
unfolding print_from
object_text true ts = refl
object_text false ts = refl

end_of : (after : Bool) → print_from after (end_array ∷ end_object ∷ end_object ∷ []) ≡ codes "]}}"
unfolding print_from
end_of true = refl
end_of false = refl

front_ends : (follows : Bool) (ts : List Token) → fold (λ _ t. ends t) follows (ts ++ begin_array ∷ []) ≡ false
front_ends follows [] = refl
front_ends follows (t ∷ ts) = front_ends (ends t) ts

-- the ends of arrays and objects, side by side
ends_together : (ts : List Token) → ((ts ++ end_array ∷ []) ++ end_object ∷ []) ++ end_object ∷ [] ≡ ts ++ (end_array ∷ end_object ∷ end_object ∷ [])
ends_together [] = refl
ends_together (t ∷ ts) = ap (λ (us : List Token). t ∷ us) (ends_together ts)

regrouped : (r k : Token) (names ts : List Token)
    → ((names ++ end_object ∷ []) ++ (r ∷ begin_object ∷ k ∷ begin_array ∷ ((ts ++ end_array ∷ []) ++ end_object ∷ []))) ++ end_object ∷ []
    ≡ ((names ++ end_object ∷ []) ++ (r ∷ begin_object ∷ k ∷ begin_array ∷ [])) ++ (ts ++ (end_array ∷ end_object ∷ end_object ∷ []))
regrouped r k [] ts = ap (λ (us : List Token). end_object ∷ r ∷ begin_object ∷ k ∷ begin_array ∷ us) (ends_together ts)
regrouped r k (name ∷ names) ts = ap (λ (us : List Token). name ∷ us) (regrouped r k names ts)

module _ (q : QueryData) where
  abbrev Cells : Type 0
  Cells = List (Option Term)

  abbrev members : Cells → List Token
  members row = flat_map (λ n. bound_member (name_at q.names n) (term_at row n)) (columns_of q)

  abbrev object : Cells → List Token
  object row = row_object q.names (columns_of q) row

  abbrev objects : List Cells → List Token
  objects rows = flat_map object rows

  row_text : (follows : Bool) (row : Cells) (rest : List Token) → print_from follows (object row ++ rest) ≡ row_piece q follows row ++ print_from true rest
  row_text follows row rest =
      print_from-append follows (object row) rest
      ∙ ap (λ (after : Bool). print_from follows (object row) ++ print_from after rest) (closed false (members row))
      ∙ ap (λ (text : List ℕ). text ++ print_from true rest) (object_text follows (members row ++ end_object ∷ []))

  all_rows : (follows : Bool) (rows : List Cells) (rest : List Token) → print_from follows (objects rows ++ rest) ≡ rows_text q follows rows ++ print_from (after_rows follows rows) rest
  all_rows follows [] rest = refl
  all_rows follows (row ∷ rows) rest =
      ap (λ (ts : List Token). print_from follows ts) (append_assoc (object row) (objects rows) rest)
      ∙ row_text follows row (objects rows ++ rest)
      ∙ ap (λ (text : List ℕ). row_piece q follows row ++ text) (all_rows true rows rest ∙ ap (λ (after : Bool). rows_text q true rows ++ print_from after rest) (still rows))
      ∙ sym (append_assoc (row_piece q follows row) (rows_text q true rows) (print_from true rest))

  abbrev last : List Token
  last = end_array ∷ end_object ∷ end_object ∷ []

  tokens_in_pieces : (rows : List Cells) → result_tokens q rows ≡ front_tokens q ++ (objects rows ++ last)
  unfolding rows_array head_tokens opening
  tokens_in_pieces rows = ap (λ (ts : List Token). begin_object ∷ key (codes "head") ∷ begin_object ∷ key (codes "vars") ∷ ts) (regrouped (key (codes "results")) (key (codes "bindings")) (names_array q) (objects rows))

  front_is_open : fold (λ _ t. ends t) false (front_tokens q) ≡ false
  unfolding opening
  front_is_open =
      ap (λ (ts : List Token). fold (λ _ t. ends t) false (begin_object ∷ ts)) (sym (append_assoc (head_tokens q) (key (codes "results") ∷ begin_object ∷ key (codes "bindings") ∷ []) (begin_array ∷ [])))
      ∙ front_ends false (begin_object ∷ (head_tokens q ++ (key (codes "results") ∷ begin_object ∷ key (codes "bindings") ∷ [])))

  pieces : (rows : List Cells) → result_text q rows ≡ front_text q ++ rows_text q false rows ++ end_text
  pieces rows =
      let after = after_rows false rows in
      let printed : print (result_tokens q rows) ≡ front_text q ++ (rows_text q false rows ++ codes "]}}") =
      ap print (tokens_in_pieces rows)
      ∙ print_from-append false (front_tokens q) (objects rows ++ last)
      ∙ ap (λ (b : Bool). front_text q ++ print_from b (objects rows ++ last)) front_is_open
      ∙ ap (λ (text : List ℕ). front_text q ++ text) (all_rows false rows last ∙ ap (λ (text : List ℕ). rows_text q false rows ++ text) (end_of after)) in
      ap (λ (text : List ℕ). text ++ 10 ∷ []) (printed ∙ sym (append_assoc (front_text q) (rows_text q false rows) (codes "]}}")))
      ∙ append_assoc (front_text q ++ rows_text q false rows) (codes "]}}") (10 ∷ [])

  go_on : (follows : Bool) (rows more : List Cells) → rows_text q follows (rows ++ more) ≡ rows_text q follows rows ++ rows_text q (after_rows follows rows) more
  go_on follows [] more = refl
  go_on follows (row ∷ rows) more =
      ap (λ (text : List ℕ). row_piece q follows row ++ text) (go_on true rows more ∙ ap (λ (after : Bool). rows_text q true rows ++ rows_text q after more) (still rows))
      ∙ sym (append_assoc (row_piece q follows row) (rows_text q true rows) (rows_text q true more))

pub pieces_make_the_text : PiecesMakeTheText
pieces_make_the_text q rows = pieces q rows

pub rows_go_on : RowsGoOn
rows_go_on q follows rows more = go_on q follows rows more
