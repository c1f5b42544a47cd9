-- The lines that end in a piece.
use Rattle.std.proofs.Common.{ℕ, ◌≡◌, ◌+◌, ◌<◌, ◌≤◌, ◌⊎◌, inl, inr, min, Bool, if◌then◌else◌, true, false, ◌||◌, nat_eq, List, [], ◌∷◌, ◌++◌, length, take, drop, Option, Some, None, Result, Ok, refl, ap, sym, subst, ◌∙◌, arith, append_assoc, append-nil, length-append}
use Rattle.std.specs.List.{list_all}
use Rattle.std.specs.Option.{option_to_list}
use Rattle.std.proofs.lemmas.List.{append_cancel_right}
use Rattle.std.proofs.lemmas.Bool.{and_parts, not-true, or_parts}
use Rattle.rdf_terms.specs.declared.term.Quad.{Quad}
use Rattle.nquads_text.specs.declared.fault.Why.{Why}
use Rattle.nquads_text.specs.declared.fault.TextFault.{TextFault}
use Rattle.nquads_text.specs.Reads.{onto_first, lines_from, ReadsLines}
use Rattle.nquads_text.specs.Line.{line_read}
use Rattle.nquads_text.specs.Lines.{with_quad, line_end, without_lf, after_end}
use Rattle.quad_feed.specs.Feed.{Fed, last_number, is_inside, ends_lines, TakesLines}
use Rattle.quad_feed.specs.Pieces.{is_cut_end, reading, ReadsEnded}
use Rattle.nquads_text.proofs.LineLaws.{line_reads}
use Rattle.nquads_text.proofs.Lines.{first_by, onto_append}
use Rattle.nquads_text.proofs.ReadLaws.{reads_append}
use Rattle.quad_feed.proofs.PieceLaws.{end_at, next_lines, one_line}
use Rattle.quad_feed.proofs.FedLaws.{made, before_piece, cr_front}

abbrev Found : Type 0
Found = Result (List Quad) (ℕ × Why)

-- ---- bytes that end lines

ends_behind : (xs : List ℕ) (b : ℕ) (bs : List ℕ) → ends_lines (b ∷ bs) ≡ true → ends_lines (xs ++ b ∷ bs) ≡ true
ends_behind [] b bs h = h
ends_behind (x ∷ []) b bs h = h
ends_behind (x ∷ y ∷ xs) b bs h = ends_behind (y ∷ xs) b bs h

ends_append : (xs ys : List ℕ) → ends_lines xs ≡ true → ends_lines ys ≡ true → ends_lines (xs ++ ys) ≡ true
ends_append xs [] h k = subst (λ (l : List ℕ). ends_lines l ≡ true) (sym (append-nil xs)) h
ends_append xs (y ∷ ys) h k = ends_behind xs y ys k

-- the line end at the front, and what follows it
pub record LineEnd (bytes : List ℕ) : Type 0 where
  pub first : ℕ
  pub more : List ℕ
  pub whole : bytes ≡ (first ∷ more) ++ after_end bytes
  pub at_end : ends_lines (first ∷ more) ≡ true

cr_parts : (t : Bool) (c : ℕ) (cs : List ℕ) → nat_eq c 10 ≡ t → (more : List ℕ) × (c ∷ cs ≡ more ++ (if t then cs else c ∷ cs)) × (ends_lines (13 ∷ more) ≡ true)
cr_parts true c cs e = (c ∷ [], refl, rw e refl)
cr_parts false c cs e = ([], refl, refl)

after_a_cr : (tail : List ℕ) → LineEnd (13 ∷ tail)
after_a_cr [] = record { first = 13; more = []; whole = refl; at_end = refl }
after_a_cr (c ∷ cs) = let p = cr_parts (nat_eq c 10) c cs refl in record { first = 13; more = p.0; whole = ap (λ (l : List ℕ). 13 ∷ l) p.1; at_end = p.2 }

end_parts : (b : ℕ) (tail : List ℕ) → (b ≡ 10) ⊎ (b ≡ 13) → LineEnd (b ∷ tail)
end_parts b tail (inl lf) = subst (λ (k : ℕ). LineEnd (k ∷ tail)) (sym lf) (record { first = 10; more = []; whole = refl; at_end = refl })
end_parts b tail (inr cr) = subst (λ (k : ℕ). LineEnd (k ∷ tail)) (sym cr) (after_a_cr tail)

-- ---- lines before and after a line end

first_line : (c : ℕ) (cs : List ℕ) → (l : List ℕ) × (ls : List (List ℕ)) × (lines_from false (c ∷ cs) ≡ l ∷ ls)
first_line c cs = first_by (nat_eq c 10) (nat_eq c 13) c (lines_from false cs) (lines_from true cs) (lines_from false cs)

abbrev Splits : Bool → List ℕ → List ℕ → Type 0
Splits cr xs ys = (after : Bool) × (lines_from cr (xs ++ ys) ≡ lines_from cr xs ++ lines_from after ys)

split_last : (lf is_cr cr : Bool) (b : ℕ) (ys : List ℕ) → (lf || is_cr) ≡ true
    → (after : Bool) × ((if lf then (if cr then lines_from false ys else [] ∷ lines_from false ys) else (if is_cr then [] ∷ lines_from true ys else onto_first b (lines_from false ys))) ≡ (if lf then (if cr then [] else [] ∷ []) else (if is_cr then [] ∷ [] else onto_first b [])) ++ lines_from after ys)
split_last true k true b ys h = (false, refl)
split_last true k false b ys h = (false, refl)
split_last false true cr b ys h = (true, refl)
split_last false false cr b ys h = cc

split_more : (lf is_cr cr : Bool) (b c : ℕ) (bs ys : List ℕ) → ((k : Bool) → Splits k (c ∷ bs) ys)
    → (after : Bool) × ((if lf then (if cr then lines_from false ((c ∷ bs) ++ ys) else [] ∷ lines_from false ((c ∷ bs) ++ ys)) else (if is_cr then [] ∷ lines_from true ((c ∷ bs) ++ ys) else onto_first b (lines_from false ((c ∷ bs) ++ ys))))
    ≡ (if lf then (if cr then lines_from false (c ∷ bs) else [] ∷ lines_from false (c ∷ bs)) else (if is_cr then [] ∷ lines_from true (c ∷ bs) else onto_first b (lines_from false (c ∷ bs)))) ++ lines_from after ys)
split_more true k true b c bs ys ih = ih false
split_more true k false b c bs ys ih = let p = ih false in (p.0, ap (λ (l : List (List ℕ)). [] ∷ l) p.1)
split_more false true cr b c bs ys ih = let p = ih true in (p.0, ap (λ (l : List (List ℕ)). [] ∷ l) p.1)
split_more false false cr b c bs ys ih = let p = ih false in (p.0, ap (λ (l : List (List ℕ)). onto_first b l) p.1 ∙ onto_append b (lines_from false (c ∷ bs)) (lines_from p.0 ys) (first_line c bs))

pub split : (cr : Bool) (xs ys : List ℕ) → ends_lines xs ≡ true → Splits cr xs ys
split cr [] ys h = (cr, refl)
split cr (b ∷ []) ys h = split_last (nat_eq b 10) (nat_eq b 13) cr b ys h
split cr (b ∷ c ∷ bs) ys h = split_more (nat_eq b 10) (nat_eq b 13) cr b c bs ys (λ k. split k (c ∷ bs) ys h)

-- ---- what has no end yet

abbrev last_lines : List ℕ → List (List ℕ)
last_lines [] = []
last_lines (b ∷ bs) = (b ∷ bs) ∷ []

inside_after : (cr : Bool) (b : ℕ) (bs : List ℕ) → list_all is_inside (b ∷ bs) ≡ true → lines_from cr (b ∷ bs) ≡ lines_from false (b ∷ bs)
inside_after cr b bs h =
    let p = and_parts (is_inside b) (list_all is_inside bs) h in
    let q = or_parts (nat_eq b 10) (nat_eq b 13) (not-true (nat_eq b 10 || nat_eq b 13) p.0) in
    rw (q.0, q.1) refl

left_lines : (cr : Bool) (left : List ℕ) → list_all is_inside left ≡ true → lines_from cr left ≡ last_lines left
left_lines cr [] h = refl
left_lines cr (b ∷ bs) h = inside_after cr b bs h ∙ one_line (b ∷ bs) (omega arith) h

-- ---- one line, and more of them

pub none_ended : (longest n : ℕ) (quads : List Quad) (bytes : List ℕ) → n ≤ last_number → ReadsEnded longest quads n bytes quads n false bytes
none_ended longest n quads bytes h = record { ended = []; whole = refl; at_end = refl; front = []; lines = refl; read = []; reads = refl; quads_are = sym (append-nil quads); number = omega (arith, h) }

added : (quads : List Quad) (q : Option Quad) → with_quad quads q ≡ quads ++ option_to_list q
added quads None = sym (append-nil quads)
added quads (Some q) = refl

pub one_ended : (longest n m : ℕ) (quads new : List Quad) (kept bytes : List ℕ) (place : ℕ) (q : Option Quad) → line_end 0 bytes ≡ Some place → list_all is_inside kept ≡ true → line_read longest (kept ++ take place bytes) ≡ Ok q → new ≡ with_quad quads q → m ≡ min (n + 1) last_number
    → ReadsEnded longest quads n (kept ++ bytes) new m (is_cut_end (drop place bytes)) (after_end (drop place bytes))
one_ended longest n m quads new kept bytes place q e h r w k =
    let at = end_at 0 bytes place e in
    let n_is : at.n ≡ place = omega (arith, at.place) in
    let end_is : drop place bytes ≡ at.byte ∷ at.tail = subst (λ (i : ℕ). drop i bytes ≡ at.byte ∷ at.tail) n_is at.end in
    let end : LineEnd (drop place bytes) = subst (λ (l : List ℕ). LineEnd l) (sym end_is) (end_parts at.byte at.tail at.ends) in
    let cut : bytes ≡ take place bytes ++ drop place bytes = subst (λ (i : ℕ). bytes ≡ take i bytes ++ drop i bytes) n_is at.whole in
    let all : kept ++ bytes ≡ ((kept ++ take place bytes) ++ end.first ∷ end.more) ++ after_end (drop place bytes) =
    ap (λ (l : List ℕ). kept ++ l) cut
    ∙ sym (append_assoc kept (take place bytes) (drop place bytes))
    ∙ ap (λ (l : List ℕ). (kept ++ take place bytes) ++ l) end.whole
    ∙ sym (append_assoc (kept ++ take place bytes) (end.first ∷ end.more) (after_end (drop place bytes))) in
    let lines : lines_from false (kept ++ bytes) ≡ (kept ++ take place bytes) ∷ lines_from (is_cut_end (drop place bytes)) (after_end (drop place bytes)) =
    ap (λ (l : List ℕ). lines_from false (kept ++ l)) (sym (append-nil bytes))
    ∙ next_lines kept bytes [] place e h
    ∙ ap (λ (l : List ℕ). (kept ++ take place bytes) ∷ lines_from (is_cut_end (drop place bytes)) l) (append-nil (after_end (drop place bytes))) in
    record {
      ended = (kept ++ take place bytes) ++ end.first ∷ end.more;
      whole = all;
      at_end = ends_behind (kept ++ take place bytes) end.first end.more end.at_end;
      front = (kept ++ take place bytes) ∷ [];
      lines = lines;
      read = option_to_list q ++ [];
      reads = (q, [], line_reads longest (kept ++ take place bytes) q r, refl, refl);
      quads_are = w ∙ added quads q ∙ ap (λ (l : List Quad). quads ++ l) (sym (append-nil (option_to_list q)));
      number = k;
    }

pub ended_on : (longest n m k : ℕ) (quads mid new : List Quad) (bytes rest left : List ℕ) (cr : Bool) → ReadsEnded longest quads n bytes mid m false rest → ReadsEnded longest mid m rest new k cr left → ReadsEnded longest quads n bytes new k cr left
ended_on longest n m k quads mid new bytes rest left cr a b = record {
  ended = a.ended ++ b.ended;
  whole = a.whole ∙ ap (λ (l : List ℕ). a.ended ++ l) b.whole ∙ sym (append_assoc a.ended b.ended left);
  at_end = ends_append a.ended b.ended a.at_end b.at_end;
  front = a.front ++ b.front;
  lines = a.lines ∙ ap (λ (l : List (List ℕ)). a.front ++ l) b.lines ∙ sym (append_assoc a.front b.front (lines_from cr left));
  read = a.read ++ b.read;
  reads = reads_append longest a.front b.front a.read b.read a.reads b.reads;
  quads_are = b.quads_are ∙ ap (λ (l : List Quad). l ++ b.read) a.quads_are ∙ append_assoc quads a.read b.read;
  number = omega (arith, a.number, b.number, length-append a.front b.front);
}

-- the loop over the lines of a piece goes on
pub next_ended : (longest n m k : ℕ) (quads mid new : List Quad) (bytes kept rest after none : List ℕ) (place : ℕ) (cr cut : Bool) → ReadsEnded longest quads n bytes mid m cr (kept ++ rest) → (cr ≡ true → rest ≡ []) → line_end 0 rest ≡ Some place → none ≡ []
    → ReadsEnded longest mid m (kept ++ rest) new k cut after → ReadsEnded longest quads n bytes new k cut (none ++ after)
next_ended longest n m k quads mid new bytes kept rest after none place true cut a c e z b =
    let at : line_end 0 [] ≡ Some place = subst (λ (l : List ℕ). line_end 0 l ≡ Some place) (c refl) e in cc
next_ended longest n m k quads mid new bytes kept rest after none place false cut a c e z b =
    subst (λ (l : List ℕ). ReadsEnded longest quads n bytes new k cut (l ++ after)) (sym z) (ended_on longest n m k quads mid new bytes (kept ++ rest) after cut a b)

pub next_same : (x : Found) (longest m k : ℕ) (mid new : List Quad) (kept rest after none more : List ℕ) (place : ℕ) (cr cut : Bool) → x ≡ reading longest mid m cr (kept ++ (rest ++ more)) → (cr ≡ true → rest ≡ []) → line_end 0 rest ≡ Some place → none ≡ []
    → reading longest mid m false (kept ++ (rest ++ more)) ≡ reading longest new k cut (after ++ more) → x ≡ reading longest new k cut (none ++ (after ++ more))
next_same x longest m k mid new kept rest after none more place true cut a c e z b =
    let at : line_end 0 [] ≡ Some place = subst (λ (l : List ℕ). line_end 0 l ≡ Some place) (c refl) e in cc
next_same x longest m k mid new kept rest after none more place false cut a c e z b = a ∙ b ∙ ap (λ (l : List ℕ). reading longest new k cut (l ++ (after ++ more))) (sym z)

-- ---- the feed

-- the bytes of a piece behind the LF that a CR stands before
front_lf : (cr : Bool) (piece : List ℕ) → (front : List ℕ) × (piece ≡ front ++ before_piece cr piece) × ((ended : List ℕ) → ends_lines ended ≡ true → ends_lines (front ++ ended) ≡ true)
front_lf false piece = ([], refl, λ ended h. h)
front_lf true [] = ([], refl, λ ended h. h)
front_lf true (b ∷ piece) = by (nat_eq b 10) refl
  where
    by : (t : Bool) → nat_eq b 10 ≡ t → (front : List ℕ) × (b ∷ piece ≡ front ++ (if t then piece else b ∷ piece)) × ((ended : List ℕ) → ends_lines ended ≡ true → ends_lines (front ++ ended) ≡ true)
    by true e = let one : ends_lines (b ∷ []) ≡ true = rw e refl in (b ∷ [], refl, λ ended h. ends_append (b ∷ []) ended one h)
    by false e = ([], refl, λ ended h. h)

begun_lines : (cr : Bool) (kept piece : List ℕ) → (cr ≡ true → kept ≡ []) → 0 < length piece → lines_from cr (kept ++ piece) ≡ lines_from false (kept ++ before_piece cr piece)
begun_lines false kept piece h l = refl
begun_lines true kept piece h l =
    let none : kept ≡ [] = h refl in
    ap (λ (k : List ℕ). lines_from true (k ++ piece)) none
    ∙ ap (λ (k : List ℕ). lines_from true k) (sym (append-nil piece))
    ∙ cr_front piece [] l
    ∙ ap (λ (k : List ℕ). lines_from false k) (append-nil (without_lf piece))
    ∙ ap (λ (k : List ℕ). lines_from false (k ++ without_lf piece)) (sym none)

-- what is in front of what is kept, where a CR may stand before it
whole_piece : (cr : Bool) (kept piece front bytes ended left : List ℕ) → (cr ≡ true → kept ≡ []) → piece ≡ front ++ bytes → (cr ≡ false → front ≡ []) → kept ++ bytes ≡ ended ++ left → kept ++ piece ≡ (front ++ ended) ++ left
whole_piece true kept piece front bytes ended left h p f w =
    let none : kept ≡ [] = h refl in
    ap (λ (k : List ℕ). k ++ piece) none
    ∙ p
    ∙ ap (λ (k : List ℕ). front ++ (k ++ bytes)) (sym none)
    ∙ ap (λ (k : List ℕ). front ++ k) w
    ∙ sym (append_assoc front ended left)
whole_piece false kept piece front bytes ended left h p f w =
    let none : front ≡ [] = f refl in
    ap (λ (l : List ℕ). kept ++ l) (p ∙ ap (λ (l : List ℕ). l ++ bytes) none) ∙ w ∙ ap (λ (l : List ℕ). (l ++ ended) ++ left) (sym none)

no_front : (cr : Bool) (piece : List ℕ) → cr ≡ false → (front_lf cr piece).0 ≡ []
unfolding front_lf
no_front true piece e = cc
no_front false piece e = refl

pub lines_taken : (longest n m : ℕ) (quads new : List Quad) (cr cut : Bool) (kept left piece : List ℕ) (f g : Option TextFault) → (cr ≡ true → kept ≡ []) → 0 < length piece → list_all is_inside left ≡ true
    → ReadsEnded longest quads n (kept ++ before_piece cr piece) new m cut left → TakesLines (made longest quads n cr kept f) piece (made longest new m cut left g)
lines_taken longest n m quads new cr cut kept left piece f g h l i r =
    let lf = front_lf cr piece in
    let whole : kept ++ piece ≡ (lf.0 ++ r.ended) ++ left = whole_piece cr kept piece lf.0 (before_piece cr piece) r.ended left h lf.1 (no_front cr piece) r.whole in
    let at_end : ends_lines (lf.0 ++ r.ended) ≡ true = lf.2 r.ended r.at_end in
    let s = split cr (lf.0 ++ r.ended) left at_end in
    let lines : r.front ++ last_lines left ≡ lines_from cr (lf.0 ++ r.ended) ++ last_lines left =
    ap (λ (x : List (List ℕ)). r.front ++ x) (sym (left_lines cut left i))
    ∙ sym r.lines
    ∙ sym (begun_lines cr kept piece h l)
    ∙ ap (λ (x : List ℕ). lines_from cr x) whole
    ∙ s.1
    ∙ ap (λ (x : List (List ℕ)). lines_from cr (lf.0 ++ r.ended) ++ x) (left_lines s.0 left i) in
    let front : r.front ≡ lines_from cr (lf.0 ++ r.ended) = append_cancel_right r.front (lines_from cr (lf.0 ++ r.ended)) (last_lines left) lines in
    record {
      ended = lf.0 ++ r.ended;
      whole = whole;
      at_end = at_end;
      read = r.read;
      lines = subst (λ (x : List (List ℕ)). ReadsLines longest x r.read) front r.reads;
      quads = r.quads_are;
      number = r.number ∙ ap (λ (x : List (List ℕ)). min (n + length x) last_number) front;
      longest = refl;
    }

pub taken_of : (fed new : Fed) (longest n m : ℕ) (quads more : List Quad) (cr cut : Bool) (kept left piece bytes : List ℕ) (f g : Option TextFault) → fed ≡ made longest quads n cr kept f → new ≡ made longest more m cut left g → (cr ≡ true → kept ≡ []) → 0 < length piece → bytes ≡ before_piece cr piece
    → list_all is_inside left ≡ true → ReadsEnded longest quads n (kept ++ bytes) more m cut left → TakesLines fed piece new
taken_of fed new longest n m quads more cr cut kept left piece bytes f g e d h l b i r =
    let at : ReadsEnded longest quads n (kept ++ before_piece cr piece) more m cut left = subst (λ (x : List ℕ). ReadsEnded longest quads n (kept ++ x) more m cut left) b r in
    subst (λ (x : Fed). TakesLines x piece new) (sym e) (subst (λ (x : Fed). TakesLines (made longest quads n cr kept f) piece x) (sym d) (lines_taken longest n m quads more cr cut kept left piece f g h l i at))

-- no bytes in the piece
pub no_piece : (fed : Fed) (piece : List ℕ) (longest n : ℕ) (quads : List Quad) (cr : Bool) (kept : List ℕ) (f : Option TextFault) → fed ≡ made longest quads n cr kept f → piece ≡ [] → n ≤ last_number → TakesLines fed piece fed
no_piece fed piece longest n quads cr kept f e z l =
    let small : n ≡ min (n + 0) last_number = omega (arith, l) in
    let at : TakesLines (made longest quads n cr kept f) [] (made longest quads n cr kept f) = record { ended = []; whole = append-nil kept; at_end = refl; read = []; lines = refl; quads = sym (append-nil quads); number = small; longest = refl } in
    subst (λ (x : Fed). TakesLines x piece x) (sym e) (subst (λ (x : List ℕ). TakesLines (made longest quads n cr kept f) x (made longest quads n cr kept f)) (sym z) at)
