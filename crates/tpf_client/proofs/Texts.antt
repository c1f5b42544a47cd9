-- The text of a result, as its pieces go to a sink.
use Rattle.std.proofs.Common.{ℕ, ◌≡◌, ◌++◌, false, List, [], length, Option, refl, sym, ap, subst, ◌∙◌, append_assoc, append-nil, arith}
use Rattle.std.specs.Io.KnownBytes.{Appends}
use Rattle.std.proofs.KnownBytes.{Appends-nil, Appends-trans}
use Rattle.tpf_base.specs.Causes.{counted_by}
use Rattle.tpf_base.specs.Wrote.{AppendsPrefix}
use Rattle.bgp_core.specs.Queries.{QueryData}
use Rattle.bgp_core.specs.Solutions.{Places}
use Rattle.result_json.specs.Results.{result_text}
use Rattle.result_json.specs.Pieces.{front_text, rows_text, end_text, after_rows, PiecesMakeTheText, RowsGoOn}
use Rattle.tpf_client.specs.Rows.{Text, begun, WritesRows, WritesFront}

-- what was given of a text
pub record HandsOn (text : Text) (t t' : Option (List ℕ)) : Type 0 where
  pub front : List ℕ
  pub rest : List ℕ
  pub bytes : Appends t t' front
  pub whole : text.writer.pending ≡ front ++ rest

pub all-given : (text : Text) (t t' : Option (List ℕ)) → Appends t t' text.writer.pending → HandsOn text t t'
all-given text t t' b = record { front = text.writer.pending; rest = []; bytes = b; whole = sym (append-nil text.writer.pending) }

pub some-given : (text : Text) (t t' : Option (List ℕ)) → AppendsPrefix t t' text.writer.pending → HandsOn text t t'
some-given text t t' b = record { front = b.front; rest = b.rest; bytes = b.bytes; whole = b.whole }

fronts : (a f x r : List ℕ) → a ++ ((f ++ x) ++ r) ≡ (a ++ f) ++ (x ++ r)
fronts a f x r = ap (λ (l : List ℕ). a ++ l) (append_assoc f x r) ∙ sym (append_assoc a f (x ++ r))

-- a front of the rows, and what was handed on of it at the end
pub front-handed : (q : QueryData) (rows : List Places) (text : Text) (t u v : Option (List ℕ)) → WritesFront rows (begun q) text t u → HandsOn text u v → AppendsPrefix t v (front_text q ++ rows_text q false rows)
front-handed q rows text t u v w h = record {
  front = w.front ++ h.front;
  rest = h.rest ++ w.rest;
  whole = w.whole ∙ (ap (λ (l : List ℕ). w.front ++ (l ++ w.rest)) h.whole ∙ fronts w.front h.front h.rest w.rest);
  bytes = Appends-trans t u v w.front h.front w.bytes h.bytes;
}

-- all of the rows, and all that was left of them at the end
pub rows-shown : (q : QueryData) (rows : List Places) (text : Text) (t u v : Option (List ℕ)) → WritesRows rows (begun q) text t u → Appends u v text.writer.pending → Appends t v (front_text q ++ rows_text q false rows)
rows-shown q rows text t u v w b = subst (λ (l : List ℕ). Appends t v l) (sym w.whole) (Appends-trans t u v w.front text.writer.pending w.bytes b)

pub nothing-written : (text : List ℕ) (t : Option (List ℕ)) → AppendsPrefix t t text
nothing-written text t = record { front = []; rest = text; whole = refl; bytes = Appends-nil t }

pub same-written : (text : List ℕ) (t u : Option (List ℕ)) → u ≡ t → AppendsPrefix t u text
same-written text t u e = subst (λ (x : Option (List ℕ)). AppendsPrefix t x text) (sym e) (nothing-written text t)

-- the whole text, as bytes
whole-is : (q : QueryData) (rows : List Places) (text : Text) (t u : Option (List ℕ)) → PiecesMakeTheText → (w : WritesRows rows (begun q) text t u) → result_text q rows ≡ w.front ++ (text.writer.pending ++ end_text)
whole-is q rows text t u pieces w = pieces q rows ∙ (ap (λ (l : List ℕ). l ++ end_text) w.whole ∙ append_assoc w.front text.writer.pending end_text)

pub whole-written : (q : QueryData) (rows : List Places) (text : Text) (t u v : Option (List ℕ)) → PiecesMakeTheText → WritesRows rows (begun q) text t u → Appends u v (text.writer.pending ++ end_text) → Appends t v (result_text q rows)
whole-written q rows text t u v pieces w b = subst (λ (l : List ℕ). Appends t v l) (sym (whole-is q rows text t u pieces w)) (Appends-trans t u v w.front (text.writer.pending ++ end_text) w.bytes b)

pub part-written : (q : QueryData) (rows : List Places) (text : Text) (t u v : Option (List ℕ)) → PiecesMakeTheText → WritesRows rows (begun q) text t u → AppendsPrefix u v (text.writer.pending ++ end_text) → AppendsPrefix t v (result_text q rows)
part-written q rows text t u v pieces w b = record {
  front = w.front ++ b.front;
  rest = b.rest;
  whole = whole-is q rows text t u pieces w ∙ (ap (λ (l : List ℕ). w.front ++ l) b.whole ∙ sym (append_assoc w.front b.front b.rest));
  bytes = Appends-trans t u v w.front b.front w.bytes b.bytes;
}

pub count-is : (q : QueryData) (rows : List Places) (text : Text) (t u : Option (List ℕ)) → WritesRows rows (begun q) text t u → text.count ≡ counted_by (length rows) 0
count-is q rows text t u w = w.count (omega arith)

-- ---- a front of the text of some rows is one of the text of these and more

regroup : (a b c d : List ℕ) → (a ++ (b ++ c)) ++ d ≡ (a ++ b) ++ (c ++ d)
regroup a b c d = ap (λ (l : List ℕ). l ++ d) (sym (append_assoc a b c)) ∙ append_assoc (a ++ b) c d

pub rows-more : (q : QueryData) (rows more : List Places) (t u : Option (List ℕ)) → PiecesMakeTheText → RowsGoOn → AppendsPrefix t u (front_text q ++ rows_text q false rows) → AppendsPrefix t u (result_text q (rows ++ more))
rows-more q rows more t u pieces goes b =
    let tail = rows_text q (after_rows false rows) more in
    let is : result_text q (rows ++ more) ≡ (front_text q ++ rows_text q false rows) ++ (tail ++ end_text) =
    pieces q (rows ++ more) ∙ (ap (λ (l : List ℕ). (front_text q ++ l) ++ end_text) (goes q false rows more) ∙ regroup (front_text q) (rows_text q false rows) tail end_text) in
    record {
      front = b.front;
      rest = b.rest ++ (tail ++ end_text);
      whole = is ∙ (ap (λ (l : List ℕ). l ++ (tail ++ end_text)) b.whole ∙ append_assoc b.front b.rest (tail ++ end_text));
      bytes = b.bytes;
    }
