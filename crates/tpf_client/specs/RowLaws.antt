-- Serves proofs alone: rows that are taken one after another.
use Rattle.std.proofs.Common.{ℕ, ◌≡◌, ◌<◌, ◌+◌, ◌^◌, ◌++◌, List, [], ◌∷◌, length, Option, Bool, true, refl, sym, ap, ◌∙◌, subst, append_assoc, append-nil, arith}
use Rattle.std.proofs.KnownBytes.{Appends-nil, Appends-trans}
use Rattle.std.proofs.lemmas.List.{length-append}
use Rattle.tpf_base.specs.Causes.{counted_by}
use Rattle.bgp_core.specs.Solutions.{Places}
use Rattle.bgp_core.specs.Queries.{QueryData}
use Rattle.result_json.specs.Pieces.{row_piece, rows_text, after_rows}
use Rattle.tpf_client.specs.Rows.{Text, WritesRows, WritesFront}

pub list-takes-none : (x : List Places) → x ≡ x ++ []
list-takes-none x = sym (append-nil x)

pub list-takes-then : (first second x y z : List Places) → y ≡ x ++ first → z ≡ y ++ second → z ≡ x ++ (first ++ second)
list-takes-then first second x y z p q = q ∙ ap (λ l. l ++ second) p ∙ append_assoc x first second

-- ---- a text

still : (rows : List Places) → after_rows true rows ≡ true
still [] = refl
still (row ∷ rows) = refl

after-more : (follows : Bool) (rows more : List Places) → after_rows follows (rows ++ more) ≡ after_rows (after_rows follows rows) more
after-more follows [] more = refl
after-more follows (row ∷ rows) more = sym (still more)

rows-go-on : (q : QueryData) (follows : Bool) (rows more : List Places) → rows_text q follows (rows ++ more) ≡ rows_text q follows rows ++ rows_text q (after_rows follows rows) more
rows-go-on q follows [] more = refl
rows-go-on q follows (row ∷ rows) more =
    ap (λ (t : List ℕ). row_piece q follows row ++ t) (rows-go-on q true rows more ∙ ap (λ (b : Bool). rows_text q true rows ++ rows_text q b more) (still rows))
    ∙ sym (append_assoc (row_piece q follows row) (rows_text q true rows) (rows_text q true more))

counts-add : (m n a b c : ℕ) → a < 2 ^ 64 → b ≡ counted_by m a → (b < 2 ^ 64 → c ≡ counted_by n b) → c ≡ counted_by (m + n) a
counts-add m n a b c low p q = let small : b < 2 ^ 64 = omega (arith, p) in let e : c ≡ counted_by n b = q small in omega (arith, p, e, low)

-- what stands behind the first front
seam : (pending t more front held : List ℕ) → pending ++ t ≡ front ++ held → pending ++ (t ++ more) ≡ front ++ (held ++ more)
seam pending t more front held e = sym (append_assoc pending t more) ∙ ap (λ (l : List ℕ). l ++ more) e ∙ append_assoc front held more

module _ {K : Type 0} (taken : K → Option (List ℕ)) where
  pub text-takes-none : (x : Text) (b : K) → WritesRows [] x x (taken b) (taken b)
  text-takes-none x b = record {
    query = refl;
    has_rows = refl;
    front = [];
    bytes = Appends-nil (taken b);
    whole = append-nil x.writer.pending;
    count = λ low. omega (arith, low);
  }

  -- the text of the second rows, behind the first
  text-more : (first second : List Places) (x y : Text) → y.writer.query ≡ x.writer.query → y.writer.has_rows ≡ after_rows x.writer.has_rows first
      → rows_text x.writer.query x.writer.has_rows (first ++ second) ≡ rows_text x.writer.query x.writer.has_rows first ++ rows_text y.writer.query y.writer.has_rows second
  text-more first second x y p q =
      rows-go-on x.writer.query x.writer.has_rows first second
      ∙ ap (λ (b : Bool). rows_text x.writer.query x.writer.has_rows first ++ rows_text x.writer.query b second) (sym q)
      ∙ ap (λ (d : QueryData). rows_text x.writer.query x.writer.has_rows first ++ rows_text d y.writer.has_rows second) (sym p)

  pub text-takes-then : (first second : List Places) (x y z : Text) (a b c : K) → WritesRows first x y (taken a) (taken b) → WritesRows second y z (taken b) (taken c)
      → WritesRows (first ++ second) x z (taken a) (taken c)
  text-takes-then first second x y z a b c p q = record {
    query = q.query ∙ p.query;
    has_rows = q.has_rows ∙ ap (λ (h : Bool). after_rows h second) p.has_rows ∙ sym (after-more x.writer.has_rows first second);
    front = p.front ++ q.front;
    bytes = Appends-trans (taken a) (taken b) (taken c) p.front q.front p.bytes q.bytes;
    whole = ap (λ (t : List ℕ). x.writer.pending ++ t) (text-more first second x y p.query p.has_rows)
        ∙ seam x.writer.pending _ _ p.front y.writer.pending p.whole
        ∙ ap (λ (t : List ℕ). p.front ++ t) q.whole ∙ sym (append_assoc p.front q.front z.writer.pending);
    count = λ low. subst (λ (n : ℕ). z.count ≡ counted_by n x.count) (sym (length-append first second)) (counts-add (length first) (length second) x.count y.count z.count low (p.count low) q.count);
  }

  pub text-front-then : (first second : List Places) (x y z : Text) (a b c : K) → WritesRows first x y (taken a) (taken b) → WritesFront second y z (taken b) (taken c)
      → WritesFront (first ++ second) x z (taken a) (taken c)
  text-front-then first second x y z a b c p q = record {
    front = p.front ++ q.front;
    rest = q.rest;
    bytes = Appends-trans (taken a) (taken b) (taken c) p.front q.front p.bytes q.bytes;
    whole = ap (λ (t : List ℕ). x.writer.pending ++ t) (text-more first second x y p.query p.has_rows)
        ∙ seam x.writer.pending _ _ p.front y.writer.pending p.whole
        ∙ ap (λ (t : List ℕ). p.front ++ t) q.whole ∙ sym (append_assoc p.front q.front (z.writer.pending ++ q.rest));
  }

  pub text-front-all : (rows : List Places) (x y : Text) (a b : K) → WritesRows rows x y (taken a) (taken b) → WritesFront rows x y (taken a) (taken b)
  text-front-all rows x y a b p = record {
    front = p.front;
    rest = [];
    bytes = p.bytes;
    whole = p.whole ∙ ap (λ (t : List ℕ). p.front ++ t) (sym (append-nil y.writer.pending));
  }
