-- The text of a result, a piece at a time.
use Rattle.std.proofs.Common.{ℕ, suc, ◌≡◌, ◌<◌, ◌≤◌, ◌+◌, ◌++◌, Bool, true, false, List, [], ◌∷◌, length, get_or, drop, Option, sym, ap, subst, ◌∙◌, append_assoc, add-one}
use Rattle.std.proofs.Math.Seq.{drop-cons}
use Rattle.std.proofs.lemmas.List.{drop_all}
use Rattle.std.specs.Io.KnownBytes.{Appends}
use Rattle.std.proofs.KnownBytes.{Appends-nil, Appends-trans}
use Rattle.tpf_base.specs.Wrote.{AppendsPrefix}
use Rattle.bgp_core.specs.Queries.{QueryData}
use Rattle.bgp_core.specs.Solutions.{Places}
use Rattle.result_json.specs.Results.{result_text}
use Rattle.result_json.specs.Pieces.{Writing, begun, front_text, row_piece, rows_text, end_text, PiecesMakeTheText}
use Rattle.group_patterns.specs.Writing.{AddsRow, WritesSoFar}

pub none-written : (q : QueryData) (rows : List Places) (w : Writing) (t : Option (List ℕ)) → w ≡ begun q → WritesSoFar q rows rows w t t
none-written q rows w t e = record {
  query = ap (λ (x : Writing). x.query) e;
  given = [];
  bytes = Appends-nil t;
  whole = ap (λ (x : Writing). x.pending ++ rows_text q x.has_rows rows) e;
}

joined-pieces : (g h p p' piece rest : List ℕ) → h ++ p' ≡ p ++ piece → (g ++ h) ++ (p' ++ rest) ≡ g ++ (p ++ (piece ++ rest))
joined-pieces g h p p' piece rest e =
    append_assoc g h (p' ++ rest)
    ∙ ap (λ (l : List ℕ). g ++ l) (sym (append_assoc h p' rest) ∙ (ap (λ (l : List ℕ). l ++ rest) e ∙ append_assoc p piece rest))

-- the row that stands in front of the rest
row-before : (rows : List Places) (i : ℕ) (row : Places) → i < length rows → row ≡ get_or rows i row → drop i rows ≡ row ∷ drop (i + 1) rows
row-before rows i row below at = rw add-one (drop-cons rows i row below ∙ ap (λ (x : Places). x ∷ drop (suc i) rows) (sym at))

pub row-written : (q : QueryData) (rows : List Places) (i : ℕ) (row : Places) (w w' : Writing) (t u v : Option (List ℕ)) → i < length rows → row ≡ get_or rows i row → WritesSoFar q rows (drop i rows) w t u → AddsRow row w w' u v → WritesSoFar q rows (drop (i + 1) rows) w' t v
row-written q rows i row w w' t u v below at s a =
    let rest = drop (i + 1) rows in
    let piece = row_piece q w.has_rows row in
    let same : a.given ++ w'.pending ≡ w.pending ++ piece = a.whole ∙ ap (λ (x : QueryData). w.pending ++ row_piece x w.has_rows row) s.query in
    record {
      query = a.query ∙ s.query;
      given = s.given ++ a.given;
      bytes = Appends-trans t u v s.given a.given s.bytes a.bytes;
      whole = ap (λ (b : Bool). (s.given ++ a.given) ++ (w'.pending ++ rows_text q b rest)) a.has_rows
          ∙ (joined-pieces s.given a.given w.pending w'.pending piece (rows_text q true rest) same
          ∙ (ap (λ (l : List Places). s.given ++ (w.pending ++ rows_text q w.has_rows l)) (sym (row-before rows i row below at)) ∙ s.whole));
    }

-- what was given, what is pending, and what is still to come
split-text : (g p more rest : List ℕ) (all : List ℕ) → g ++ (p ++ more) ≡ all → g ++ (p ++ (more ++ rest)) ≡ all ++ rest
split-text g p more rest all e = ap (λ (l : List ℕ). g ++ l) (sym (append_assoc p more rest)) ∙ (sym (append_assoc g (p ++ more) rest) ∙ ap (λ (l : List ℕ). l ++ rest) e)

whole-text : PiecesMakeTheText → (q : QueryData) (rows rest : List Places) (w : Writing) (t u : Option (List ℕ)) → (s : WritesSoFar q rows rest w t u) → result_text q rows ≡ s.given ++ (w.pending ++ (rows_text q w.has_rows rest ++ end_text))
whole-text pieces q rows rest w t u s =
    pieces q rows ∙ sym (split-text s.given w.pending (rows_text q w.has_rows rest) end_text (front_text q ++ rows_text q false rows) s.whole)

-- a front of what is pending and the row was given
pub row-part : PiecesMakeTheText → (q : QueryData) (rows : List Places) (i : ℕ) (row : Places) (w : Writing) (t u v : Option (List ℕ)) → i < length rows → row ≡ get_or rows i row → WritesSoFar q rows (drop i rows) w t u
    → AppendsPrefix u v (w.pending ++ row_piece w.query w.has_rows row) → AppendsPrefix t v (result_text q rows)
row-part pieces q rows i row w t u v below at s b =
    let rest = drop (i + 1) rows in
    let piece = row_piece q w.has_rows row in
    let later = rows_text q true rest ++ end_text in
    let here : result_text q rows ≡ s.given ++ (w.pending ++ ((piece ++ rows_text q true rest) ++ end_text)) =
    whole-text pieces q rows (drop i rows) w t u s ∙ ap (λ (l : List Places). s.given ++ (w.pending ++ (rows_text q w.has_rows l ++ end_text))) (row-before rows i row below at) in
    let parts : w.pending ++ piece ≡ b.front ++ b.rest = ap (λ (x : QueryData). w.pending ++ row_piece x w.has_rows row) (sym s.query) ∙ b.whole in
    record {
      front = s.given ++ b.front;
      rest = b.rest ++ later;
      whole = here
          ∙ (ap (λ (l : List ℕ). s.given ++ (w.pending ++ l)) (append_assoc piece (rows_text q true rest) end_text)
          ∙ (ap (λ (l : List ℕ). s.given ++ l) (sym (append_assoc w.pending piece later) ∙ (ap (λ (l : List ℕ). l ++ later) parts ∙ append_assoc b.front b.rest later))
          ∙ sym (append_assoc s.given b.front (b.rest ++ later))));
      bytes = Appends-trans t u v s.given b.front s.bytes b.bytes;
    }

at-end : PiecesMakeTheText → (q : QueryData) (rows : List Places) (i : ℕ) (w : Writing) (t u : Option (List ℕ)) → length rows ≤ i → (s : WritesSoFar q rows (drop i rows) w t u) → result_text q rows ≡ s.given ++ (w.pending ++ end_text)
at-end pieces q rows i w t u past s =
    whole-text pieces q rows (drop i rows) w t u s ∙ ap (λ (l : List Places). s.given ++ (w.pending ++ (rows_text q w.has_rows l ++ end_text))) (drop_all i rows past)

pub all-written : PiecesMakeTheText → (q : QueryData) (rows : List Places) (i : ℕ) (w : Writing) (t u v : Option (List ℕ)) → length rows ≤ i → WritesSoFar q rows (drop i rows) w t u → Appends u v (w.pending ++ end_text) → Appends t v (result_text q rows)
all-written pieces q rows i w t u v past s b = subst (λ (l : List ℕ). Appends t v l) (sym (at-end pieces q rows i w t u past s)) (Appends-trans t u v s.given (w.pending ++ end_text) s.bytes b)

pub end-part : PiecesMakeTheText → (q : QueryData) (rows : List Places) (i : ℕ) (w : Writing) (t u v : Option (List ℕ)) → length rows ≤ i → WritesSoFar q rows (drop i rows) w t u → AppendsPrefix u v (w.pending ++ end_text) → AppendsPrefix t v (result_text q rows)
end-part pieces q rows i w t u v past s b = record {
  front = s.given ++ b.front;
  rest = b.rest;
  whole = at-end pieces q rows i w t u past s ∙ (ap (λ (l : List ℕ). s.given ++ l) b.whole ∙ sym (append_assoc s.given b.front b.rest));
  bytes = Appends-trans t u v s.given b.front s.bytes b.bytes;
}
