-- Lines of a text that comes in pieces.
use Rattle.std.proofs.Common.{ℕ, suc, ◌≡◌, ◌+◌, ◌<◌, ◌≤◌, ◌⊎◌, inl, inr, min, Bool, if◌then◌else◌, true, false, not, ◌&&◌, ◌||◌, nat_eq, List, [], ◌∷◌, ◌++◌, length, take, drop, Option, Some, None, Result, Ok, Err, refl, ap, sym, subst, ◌∙◌, arith, append_assoc}
use Rattle.std.specs.List.{list_all}
use Rattle.std.proofs.lemmas.Bool.{and_parts, not-true, or_parts}
use Rattle.std.proofs.lemmas.Option.{same_Some}
use Rattle.rdf_terms.specs.declared.term.Quad.{Quad}
use Rattle.nquads_text.specs.declared.fault.Why.{Why}
use Rattle.nquads_text.specs.Reads.{lines_from}
use Rattle.nquads_text.specs.Line.{line_read}
use Rattle.nquads_text.specs.Lines.{with_quad, after_line, read_lines, line_end, after_end}
use Rattle.quad_feed.specs.Feed.{is_inside, last_number}
use Rattle.quad_feed.specs.Pieces.{is_cut_end, capped, reading}
use Rattle.nquads_text.proofs.Lines.{chosen, after_cr}

abbrev Found : Type 0
Found = Result (List Quad) (ℕ × Why)

-- ---- lines

-- bytes without a line end stand in front of the first line
inside_lines : (xs ys : List ℕ) (ls : List (List ℕ)) → list_all is_inside xs ≡ true → lines_from false ys ≡ [] ∷ ls → lines_from false (xs ++ ys) ≡ xs ∷ ls
inside_lines [] ys ls h e = e
inside_lines (b ∷ xs) ys ls h e =
    let p = and_parts (is_inside b) (list_all is_inside xs) h in
    let q = or_parts (nat_eq b 10) (nat_eq b 13) (not-true (nat_eq b 10 || nat_eq b 13) p.0) in
    rw (q.0, q.1, inside_lines xs ys ls p.1 e) refl

pub lf_more : (t : Bool) (c : ℕ) (bs more : List ℕ) → (if t then bs ++ more else c ∷ (bs ++ more)) ≡ (if t then bs else c ∷ bs) ++ more
lf_more true c bs more = refl
lf_more false c bs more = refl

cr_end : (bs more : List ℕ) → lines_from true (bs ++ more) ≡ lines_from (is_cut_end (13 ∷ bs)) (after_end (13 ∷ bs) ++ more)
cr_end [] more = refl
cr_end (c ∷ bs) more = after_cr (c ∷ (bs ++ more)) ∙ ap (λ (l : List ℕ). lines_from false l) (lf_more (nat_eq c 10) c bs more)

lf_cut : (bs : List ℕ) → is_cut_end (10 ∷ bs) ≡ false
lf_cut [] = refl
lf_cut (c ∷ bs) = refl

-- the line end at the front, and what follows it
end_by : (b : ℕ) (bs more : List ℕ) → (b ≡ 10) ⊎ (b ≡ 13) → lines_from false ((b ∷ bs) ++ more) ≡ [] ∷ lines_from (is_cut_end (b ∷ bs)) (after_end (b ∷ bs) ++ more)
end_by b bs more (inl lf) =
    let at : lines_from false ((10 ∷ bs) ++ more) ≡ [] ∷ lines_from (is_cut_end (10 ∷ bs)) (after_end (10 ∷ bs) ++ more) = ap (λ (k : Bool). [] ∷ lines_from k (bs ++ more)) (sym (lf_cut bs)) in
    subst (λ (k : ℕ). lines_from false ((k ∷ bs) ++ more) ≡ [] ∷ lines_from (is_cut_end (k ∷ bs)) (after_end (k ∷ bs) ++ more)) (sym lf) at
end_by b bs more (inr cr) =
    let at : lines_from false ((13 ∷ bs) ++ more) ≡ [] ∷ lines_from (is_cut_end (13 ∷ bs)) (after_end (13 ∷ bs) ++ more) = ap (λ (l : List (List ℕ)). [] ∷ l) (cr_end bs more) in
    subst (λ (k : ℕ). lines_from false ((k ∷ bs) ++ more) ≡ [] ∷ lines_from (is_cut_end (k ∷ bs)) (after_end (k ∷ bs) ++ more)) (sym cr) at

-- where the first line end stands
pub record EndAt (i : ℕ) (bs : List ℕ) (m : ℕ) : Type 0 where
  pub n : ℕ
  pub place : m ≡ i + n
  pub inside : list_all is_inside (take n bs) ≡ true
  pub whole : bs ≡ take n bs ++ drop n bs
  pub byte : ℕ
  pub tail : List ℕ
  pub end : drop n bs ≡ byte ∷ tail
  pub ends : (byte ≡ 10) ⊎ (byte ≡ 13)

end_byte : (b : ℕ) → (nat_eq b 10 || nat_eq b 13) ≡ true → (b ≡ 10) ⊎ (b ≡ 13)
end_byte b h = grind (arith, h)

at_step : (i b : ℕ) (bs : List ℕ) (m : ℕ) → (line_end (i + 1) bs ≡ Some m → EndAt (i + 1) bs m) → ((nat_eq b 10 || nat_eq b 13) ≡ true) × (◌≡◌ {A = Option ℕ} (Some i) (Some m)) ⊎ ((nat_eq b 10 || nat_eq b 13) ≡ false) × (line_end (i + 1) bs ≡ Some m) → EndAt i (b ∷ bs) m
at_step i b bs m ih (inl here) =
    let same : i ≡ m = same_Some i m here.1 in
    record { n = 0; place = omega (arith, same); inside = refl; whole = refl; byte = b; tail = bs; end = refl; ends = end_byte b here.0 }
at_step i b bs m ih (inr later) =
    let e = ih later.1 in
    let good : is_inside b ≡ true = ap not later.0 in
    record { n = suc e.n; place = omega (arith, e.place); inside = rw (good, e.inside) refl; whole = ap (λ (l : List ℕ). b ∷ l) e.whole; byte = e.byte; tail = e.tail; end = e.end; ends = e.ends }

pub end_at : (i : ℕ) (bs : List ℕ) (m : ℕ) → line_end i bs ≡ Some m → EndAt i bs m
end_at i [] m e = cc
end_at i (b ∷ bs) m e = at_step i b bs m (end_at (i + 1) bs m) (chosen (nat_eq b 10 || nat_eq b 13) (Some i) (line_end (i + 1) bs) (Some m) e)

pub inside_append : (xs ys : List ℕ) → list_all is_inside xs ≡ true → list_all is_inside ys ≡ true → list_all is_inside (xs ++ ys) ≡ true
inside_append [] ys h k = k
inside_append (x ∷ xs) ys h k = let p = and_parts (is_inside x) (list_all is_inside xs) h in rw (p.0, inside_append xs ys p.1 k) refl

next_by : (kept bytes more : List ℕ) (n : ℕ) (e : EndAt 0 bytes n) → e.n ≡ n → list_all is_inside kept ≡ true → lines_from false (kept ++ (bytes ++ more)) ≡ (kept ++ take n bytes) ∷ lines_from (is_cut_end (drop n bytes)) (after_end (drop n bytes) ++ more)
next_by kept bytes more n e same h =
    let front : list_all is_inside (kept ++ take e.n bytes) ≡ true = inside_append kept (take e.n bytes) h e.inside in
    let end : lines_from false (drop e.n bytes ++ more) ≡ [] ∷ lines_from (is_cut_end (drop e.n bytes)) (after_end (drop e.n bytes) ++ more) =
    subst (λ (l : List ℕ). lines_from false (l ++ more) ≡ [] ∷ lines_from (is_cut_end l) (after_end l ++ more)) (sym e.end) (end_by e.byte e.tail more e.ends) in
    let whole : kept ++ (bytes ++ more) ≡ (kept ++ take e.n bytes) ++ (drop e.n bytes ++ more) =
    ap (λ (l : List ℕ). kept ++ l) (ap (λ (l : List ℕ). l ++ more) e.whole ∙ append_assoc (take e.n bytes) (drop e.n bytes) more) ∙ sym (append_assoc kept (take e.n bytes) (drop e.n bytes ++ more)) in
    let at : lines_from false (kept ++ (bytes ++ more)) ≡ (kept ++ take e.n bytes) ∷ lines_from (is_cut_end (drop e.n bytes)) (after_end (drop e.n bytes) ++ more) =
    ap (λ (l : List ℕ). lines_from false l) whole ∙ inside_lines (kept ++ take e.n bytes) (drop e.n bytes ++ more) (lines_from (is_cut_end (drop e.n bytes)) (after_end (drop e.n bytes) ++ more)) front end in
    subst (λ (k : ℕ). lines_from false (kept ++ (bytes ++ more)) ≡ (kept ++ take k bytes) ∷ lines_from (is_cut_end (drop k bytes)) (after_end (drop k bytes) ++ more)) same at

pub next_lines : (kept bytes more : List ℕ) (n : ℕ) → line_end 0 bytes ≡ Some n → list_all is_inside kept ≡ true → lines_from false (kept ++ (bytes ++ more)) ≡ (kept ++ take n bytes) ∷ lines_from (is_cut_end (drop n bytes)) (after_end (drop n bytes) ++ more)
next_lines kept bytes more n e h =
    let at = end_at 0 bytes n e in
    let same : at.n ≡ n = omega (arith, at.place) in
    next_by kept bytes more n at same h

-- ---- numbers

cap_line : (longest n m : ℕ) (r : Result (Option Quad) Why) (more : ℕ → Option Quad → Found) → min n last_number ≡ min m last_number → ((q : Option Quad) → capped (more n q) ≡ capped (more m q)) → capped (after_line n r (more n)) ≡ capped (after_line m r (more m))
cap_line longest n m (Ok q) more e h = h q
cap_line longest n m (Err why) more e h = ap (λ (k : ℕ). let r : Found = Err (k, why) in r) e

next_cap : (n m : ℕ) → min n last_number ≡ min m last_number → min (n + 1) last_number ≡ min (m + 1) last_number
next_cap n m e = omega (arith, e)

-- numbers that are shown alike give what is shown alike
cap_reads : (longest : ℕ) (lines : List (List ℕ)) (quads : List Quad) (n m : ℕ) → min n last_number ≡ min m last_number → capped (read_lines longest quads n lines) ≡ capped (read_lines longest quads m lines)
cap_reads longest [] quads n m e = refl
cap_reads longest (line ∷ lines) quads n m e =
    cap_line longest n m (line_read longest line) (λ k q. read_lines longest (with_quad quads q) (k + 1) lines) e (λ q. cap_reads longest lines (with_quad quads q) (n + 1) (m + 1) (next_cap n m e))

at_end : (n : ℕ) → min (n + 1) last_number ≡ min (min (n + 1) last_number) last_number
at_end n = omega arith

-- ---- one line more

pub line_ok : (longest n : ℕ) (quads new : List Quad) (kept bytes more : List ℕ) (place : ℕ) (q : Option Quad) → line_end 0 bytes ≡ Some place → list_all is_inside kept ≡ true → line_read longest (kept ++ take place bytes) ≡ Ok q → new ≡ with_quad quads q
    → reading longest quads n false (kept ++ (bytes ++ more)) ≡ reading longest new (min (n + 1) last_number) (is_cut_end (drop place bytes)) (after_end (drop place bytes) ++ more)
unfolding reading
line_ok longest n quads new kept bytes more place q e h r w =
    let lines : List (List ℕ) = lines_from (is_cut_end (drop place bytes)) (after_end (drop place bytes) ++ more) in
    ap (λ (l : List (List ℕ)). capped (read_lines longest quads n l)) (next_lines kept bytes more place e h)
    ∙ ap (λ (x : Result (Option Quad) Why). capped (after_line n x (λ q. read_lines longest (with_quad quads q) (n + 1) (lines_from (is_cut_end (drop place bytes)) (after_end (drop place bytes) ++ more))))) r
    ∙ ap (λ (l : List Quad). capped (read_lines longest l (n + 1) (lines_from (is_cut_end (drop place bytes)) (after_end (drop place bytes) ++ more)))) (sym w)
    ∙ cap_reads longest (lines_from (is_cut_end (drop place bytes)) (after_end (drop place bytes) ++ more)) new (n + 1) (min (n + 1) last_number) (at_end n)

pub line_bad : (longest n : ℕ) (quads : List Quad) (kept bytes more : List ℕ) (place : ℕ) (why : Why) → n ≤ last_number → line_end 0 bytes ≡ Some place → list_all is_inside kept ≡ true → line_read longest (kept ++ take place bytes) ≡ Err why
    → reading longest quads n false (kept ++ (bytes ++ more)) ≡ Err (n, why)
unfolding reading
line_bad longest n quads kept bytes more place why b e h r =
    let small : min n last_number ≡ n = omega (arith, b) in
    ap (λ (l : List (List ℕ)). capped (read_lines longest quads n l)) (next_lines kept bytes more place e h)
    ∙ ap (λ (x : Result (Option Quad) Why). capped (after_line n x (λ q. read_lines longest (with_quad quads q) (n + 1) (lines_from (is_cut_end (drop place bytes)) (after_end (drop place bytes) ++ more))))) r
    ∙ ap (λ (k : ℕ). let x : Found = Err (k, why) in x) small

-- bytes in which no line ends
pub no_end_inside : (i : ℕ) (bs : List ℕ) → line_end i bs ≡ None → list_all is_inside bs ≡ true
no_end_inside i [] e = refl
no_end_inside i (b ∷ bs) e = by (chosen (nat_eq b 10 || nat_eq b 13) (Some i) (line_end (i + 1) bs) None e) (no_end_inside (i + 1) bs)
  where
    by : ((nat_eq b 10 || nat_eq b 13) ≡ true) × (◌≡◌ {A = Option ℕ} (Some i) None) ⊎ ((nat_eq b 10 || nat_eq b 13) ≡ false) × (line_end (i + 1) bs ≡ None) → (line_end (i + 1) bs ≡ None → list_all is_inside bs ≡ true) → (is_inside b && list_all is_inside bs) ≡ true
    by (inl here) ih = cc
    by (inr later) ih = let good : is_inside b ≡ true = ap not later.0 in rw (good, ih later.1) refl

-- ---- the last line

pub one_line : (bs : List ℕ) → 0 < length bs → list_all is_inside bs ≡ true → lines_from false bs ≡ bs ∷ []
one_line [] l h = absurd (omega arith)
one_line (b ∷ []) l h =
    let q = or_parts (nat_eq b 10) (nat_eq b 13) (not-true (nat_eq b 10 || nat_eq b 13) (and_parts (is_inside b) true h).0) in
    rw (q.0, q.1) refl
one_line (b ∷ c ∷ bs) l h =
    let p = and_parts (is_inside b) (list_all is_inside (c ∷ bs)) h in
    let q = or_parts (nat_eq b 10) (nat_eq b 13) (not-true (nat_eq b 10 || nat_eq b 13) p.0) in
    rw (q.0, q.1, one_line (c ∷ bs) (omega arith) p.1) refl

no_cr : (kept : List ℕ) (cr : Bool) → 0 < length kept → (cr ≡ true → kept ≡ []) → cr ≡ false
no_cr kept true l h = let none : kept ≡ [] = h refl in absurd (omega (arith, ap length none))
no_cr kept false l h = refl

pub last_line : (longest n : ℕ) (quads : List Quad) (cr : Bool) (kept : List ℕ) → 0 < length kept → list_all is_inside kept ≡ true → (cr ≡ true → kept ≡ []) → reading longest quads n cr kept ≡ capped (after_line n (line_read longest kept) (λ q. Ok (with_quad quads q)))
unfolding reading
last_line longest n quads cr kept l h c =
    ap (λ (k : Bool). capped (read_lines longest quads n (lines_from k kept))) (no_cr kept cr l c) ∙ ap (λ (x : List (List ℕ)). capped (read_lines longest quads n x)) (one_line kept l h)

pub no_line : (longest n : ℕ) (quads : List Quad) (cr : Bool) (kept : List ℕ) → kept ≡ [] → reading longest quads n cr kept ≡ Ok quads
unfolding reading
no_line longest n quads cr kept e = ap (λ (x : List ℕ). capped (read_lines longest quads n (lines_from cr x))) e

pub none_kept : (kept : List ℕ) → nat_eq (length kept) 0 ≡ true → kept ≡ []
none_kept [] h = refl
none_kept (b ∷ kept) h = let none : length (b ∷ kept) ≡ 0 = grind (arith, h) in absurd (omega (arith, none))

pub some_kept : (kept : List ℕ) → nat_eq (length kept) 0 ≡ false → 0 < length kept
some_kept [] h = cc
some_kept (b ∷ kept) h = omega arith

pub last_bad : (longest n : ℕ) (quads : List Quad) (cr : Bool) (kept : List ℕ) (why : Why) → n ≤ last_number → 0 < length kept → list_all is_inside kept ≡ true → (cr ≡ true → kept ≡ []) → line_read longest kept ≡ Err why → reading longest quads n cr kept ≡ Err (n, why)
last_bad longest n quads cr kept why b l h c r =
    let small : min n last_number ≡ n = omega (arith, b) in
    last_line longest n quads cr kept l h c
    ∙ ap (λ (x : Result (Option Quad) Why). capped (after_line n x (λ q. Ok (with_quad quads q)))) r
    ∙ ap (λ (k : ℕ). let x : Found = Err (k, why) in x) small

pub last_ok : (longest n : ℕ) (quads new : List Quad) (cr : Bool) (kept : List ℕ) (q : Option Quad) → 0 < length kept → list_all is_inside kept ≡ true → (cr ≡ true → kept ≡ []) → line_read longest kept ≡ Ok q → new ≡ with_quad quads q → reading longest quads n cr kept ≡ Ok new
last_ok longest n quads new cr kept q l h c r w =
    last_line longest n quads cr kept l h c
    ∙ ap (λ (x : Result (Option Quad) Why). capped (after_line n x (λ q. Ok (with_quad quads q)))) r
    ∙ ap (λ (x : List Quad). let y : Found = Ok x in y) (sym w)
