-- What is fed and then more: the reader gives what the relations say.
use Rattle.std.proofs.Common.{ℕ, ◌≡◌, ◌+◌, ◌<◌, min, Bool, if◌then◌else◌, true, false, nat_eq, List, [], ◌∷◌, ◌++◌, length, Option, Result, Ok, Err, refl, ap, sym, subst, ◌∙◌, arith, append-nil}
use Rattle.rdf_terms.specs.declared.term.Quad.{Quad}
use Rattle.nquads_text.specs.declared.fault.Why.{Why}
use Rattle.std.specs.List.{list_all}
use Rattle.std.specs.Prelude.{IfOk}
use Rattle.nquads_text.specs.declared.fault.TextFault.{TextFault}
use Rattle.nquads_text.specs.declared.fault.TextFault.TheVariants.{Bad, OutOfMemory}
use Rattle.nquads_text.specs.Reads.{lines_from, RefusedFor}
use Rattle.nquads_text.specs.Lines.{with_quad, after_line, read_lines, without_lf, Gives}
use Rattle.quad_feed.specs.Feed.{Fed, last_number, is_inside, ReadsWith, FaultWith, TakesPiece, IsUnfinished}
use Rattle.quad_feed.specs.Pieces.{capped, reading, fed_reading}
use Rattle.nquads_text.proofs.ReadLaws.{err_same, reads, read_on, faults}
use Rattle.nquads_text.proofs.LineLaws.{line_faults, faults_line}
use Rattle.nquads_text.proofs.Lines.{after_cr}
use Rattle.quad_feed.proofs.PieceLaws.{lf_more}

abbrev Found : Type 0
Found = Result (List Quad) (ℕ × Why)

capped_ok : (x : Found) (quads : List Quad) → capped x ≡ Ok quads → x ≡ Ok quads
capped_ok (Ok y) quads e = e
capped_ok (Err bad) quads e = cc

capped_err : (x : Found) (n : ℕ) (why : Why) → capped x ≡ Err (n, why) → (bad : ℕ × Why) × (x ≡ Err bad) × (min bad.0 last_number ≡ n) × (bad.1 ≡ why)
capped_err (Ok y) n why e = cc
capped_err (Err bad) n why e =
    let same : ◌≡◌ {A = ℕ × Why} (min bad.0 last_number, bad.1) (n, why) = err_same _ _ e in
    (bad, refl, ap (λ (p : ℕ × Why). p.0) same, ap (λ (p : ℕ × Why). p.1) same)

pub reads_with : (fed : Fed) (more : List ℕ) (quads : List Quad) → fed_reading fed more ≡ Ok quads → ReadsWith fed more quads
unfolding reading
reads_with fed more quads e = reads fed.longest fed.number fed.quads quads (lines_from fed.after_cr (fed.kept ++ more)) (capped_ok (read_lines fed.longest fed.quads fed.number (lines_from fed.after_cr (fed.kept ++ more))) quads e)

pub with_reads : (fed : Fed) (more : List ℕ) (quads : List Quad) → ReadsWith fed more quads → fed_reading fed more ≡ Ok quads
unfolding reading
with_reads fed more quads h =
    let lines : List (List ℕ) = lines_from fed.after_cr (fed.kept ++ more) in
    let all : read_lines fed.longest fed.quads fed.number (lines_from fed.after_cr (fed.kept ++ more)) ≡ Ok (fed.quads ++ h.0) =
    ap (λ (l : List (List ℕ)). read_lines fed.longest fed.quads fed.number l) (sym (append-nil (lines_from fed.after_cr (fed.kept ++ more)))) ∙ read_on fed.longest fed.number fed.quads h.0 (lines_from fed.after_cr (fed.kept ++ more)) [] h.1 in
    ap capped all ∙ ap (λ (l : List Quad). let r : Found = Ok l in r) (sym h.2)

pub fault_with : (fed : Fed) (more : List ℕ) (n : ℕ) (why : Why) → fed_reading fed more ≡ Err (n, why) → FaultWith fed more n why
unfolding reading
fault_with fed more n why e =
    let c = capped_err (read_lines fed.longest fed.quads fed.number (lines_from fed.after_cr (fed.kept ++ more))) n why e in
    let f = faults fed.longest fed.number fed.quads c.0 (lines_from fed.after_cr (fed.kept ++ more)) c.1 in
    record {
      front = f.front;
      line = f.line;
      rest = f.rest;
      lines = f.lines_are;
      place = sym c.2 ∙ ap (λ (k : ℕ). min k last_number) f.place;
      before = f.before;
      fault = line_faults fed.longest f.line why (f.fault ∙ ap (λ (w : Why). let r : Result (Option Quad) Why = Err w in r) c.3);
    }

pub with_fault : (fed : Fed) (more : List ℕ) (n : ℕ) (why : Why) → FaultWith fed more n why → fed_reading fed more ≡ Err (n, why)
unfolding reading
with_fault fed more n why f =
    let on = read_on fed.longest fed.number fed.quads f.before.0 f.front (f.line ∷ f.rest) f.before.1 in
    ap (λ (l : List (List ℕ)). capped (read_lines fed.longest fed.quads fed.number l)) f.lines
    ∙ ap capped on
    ∙ ap (λ (x : Result (Option Quad) Why). capped (after_line (fed.number + length f.front) x (λ q. read_lines fed.longest (with_quad (fed.quads ++ f.before.0) q) ((fed.number + length f.front) + 1) f.rest))) (faults_line fed.longest f.line why f.fault)
    ∙ ap (λ (k : ℕ). let r : Found = Err (k, why) in r) (sym f.place)

pub takes_piece : (old : Fed) (piece : List ℕ) (new : Fed) → ((more : List ℕ) → fed_reading old (piece ++ more) ≡ fed_reading new more) → TakesPiece old piece new
takes_piece old piece new same = record {
  reads = λ more quads h. reads_with new more quads (sym (same more) ∙ with_reads old (piece ++ more) quads h);
  only_reads = λ more quads h. reads_with old (piece ++ more) quads (same more ∙ with_reads new more quads h);
  faults = λ more n why h. fault_with new more n why (sym (same more) ∙ with_fault old (piece ++ more) n why h);
  only_faults = λ more n why h. fault_with old (piece ++ more) n why (same more ∙ with_fault new more n why h);
}

-- the LF that may stand at the front of a piece
pub cr_front : (piece more : List ℕ) → 0 < length piece → lines_from true (piece ++ more) ≡ lines_from false (without_lf piece ++ more)
cr_front [] more l = absurd (omega arith)
cr_front (b ∷ piece) more l = after_cr (b ∷ (piece ++ more)) ∙ ap (λ (x : List ℕ). lines_from false x) (lf_more (nat_eq b 10) b piece more)

pub begun : (longest n : ℕ) (quads : List Quad) (cr : Bool) (kept piece more : List ℕ) → (cr ≡ true → kept ≡ []) → 0 < length piece → reading longest quads n cr (kept ++ (piece ++ more)) ≡ reading longest quads n false (kept ++ ((if cr then without_lf piece else piece) ++ more))
unfolding reading
begun longest n quads true kept piece more h l =
    let none : kept ≡ [] = h refl in
    ap (λ (k : List ℕ). capped (read_lines longest quads n (lines_from true (k ++ (piece ++ more))))) none
    ∙ ap (λ (x : List (List ℕ)). capped (read_lines longest quads n x)) (cr_front piece more l)
    ∙ ap (λ (k : List ℕ). capped (read_lines longest quads n (lines_from false (k ++ (without_lf piece ++ more))))) (sym none)
begun longest n quads false kept piece more h l = refl

-- ---- the feed's fields

abbrev pub made : ℕ → List Quad → ℕ → Bool → List ℕ → Option TextFault → Fed
made longest quads number cr kept fault = record { longest = longest; quads = quads; number = number; after_cr = cr; kept = kept; fault = fault }

pub unfinished_of : (fed : Fed) (longest : ℕ) (quads : List Quad) (n : ℕ) (cr : Bool) (kept : List ℕ) (f : Option TextFault) → fed ≡ made longest quads n cr kept f → list_all is_inside kept ≡ true → (cr ≡ true → kept ≡ []) → IsUnfinished fed
unfinished_of fed longest quads n cr kept f e h c = subst (λ (x : Fed). IsUnfinished x) (sym e) (record { line = h; after_cr = c })

abbrev pub before_piece : Bool → List ℕ → List ℕ
before_piece cr piece = if cr then without_lf piece else piece

from_start : (fed : Fed) (longest : ℕ) (quads : List Quad) (n : ℕ) (cr : Bool) (kept : List ℕ) (f : Option TextFault) (piece bytes more : List ℕ) → fed ≡ made longest quads n cr kept f → (cr ≡ true → kept ≡ []) → 0 < length piece → bytes ≡ before_piece cr piece
    → fed_reading fed (piece ++ more) ≡ reading longest quads n false (kept ++ (bytes ++ more))
from_start fed longest quads n cr kept f piece bytes more e c l b =
    ap (λ (x : Fed). fed_reading x (piece ++ more)) e ∙ begun longest n quads cr kept piece more c l ∙ ap (λ (x : List ℕ). reading longest quads n false (kept ++ (x ++ more))) (sym b)

pub same_of : (fed : Fed) (longest : ℕ) (quads new : List Quad) (n m : ℕ) (cr cut : Bool) (kept left : List ℕ) (f g : Option TextFault) (piece bytes : List ℕ) → fed ≡ made longest quads n cr kept f → (cr ≡ true → kept ≡ []) → 0 < length piece → bytes ≡ before_piece cr piece
    → ((more : List ℕ) → reading longest quads n false (kept ++ (bytes ++ more)) ≡ reading longest new m cut (left ++ more)) → (more : List ℕ) → fed_reading fed (piece ++ more) ≡ fed_reading (made longest new m cut left g) more
same_of fed longest quads new n m cr cut kept left f g piece bytes e c l b same more = from_start fed longest quads n cr kept f piece bytes more e c l b ∙ same more

pub refused_of : (X Y : Type 0) (fault : TextFault) (fed : Fed) (longest : ℕ) (quads : List Quad) (n : ℕ) (cr : Bool) (kept : List ℕ) (f : Option TextFault) (piece bytes : List ℕ) → fed ≡ made longest quads n cr kept f → (cr ≡ true → kept ≡ []) → 0 < length piece → bytes ≡ before_piece cr piece
    → RefusedFor {X = X} (λ m why. (more : List ℕ) → reading longest quads n false (kept ++ (bytes ++ more)) ≡ Err (m, why)) (Err fault) → RefusedFor {X = Y} (λ m why. (more : List ℕ) → fed_reading fed (piece ++ more) ≡ Err (m, why)) (Err fault)
refused_of X Y OutOfMemory fed longest quads n cr kept f piece bytes e c l b h = tt
refused_of X Y (Bad line why) fed longest quads n cr kept f piece bytes e c l b h = λ more. from_start fed longest quads n cr kept f piece bytes more e c l b ∙ h more

pub refused_with : (X Y : Type 0) (fault : TextFault) (fed : Fed) (piece : List ℕ) → RefusedFor {X = X} (λ m why. (more : List ℕ) → fed_reading fed (piece ++ more) ≡ Err (m, why)) (Err fault) → RefusedFor {X = Y} (λ m why. (more : List ℕ) → FaultWith fed (piece ++ more) m why) (Err fault)
refused_with X Y OutOfMemory fed piece h = tt
refused_with X Y (Bad line why) fed piece h = λ more. fault_with fed (piece ++ more) line why (h more)

-- ---- the end

pub at_last : {X : Type 0} (view : X → List Quad) (r : Result X TextFault) (fed : Fed) (longest : ℕ) (quads : List Quad) (n : ℕ) (cr : Bool) (kept slice : List ℕ) (f : Option TextFault) → fed ≡ made longest quads n cr kept f → slice ≡ kept → Gives view r (reading longest quads n cr slice) → Gives view r (fed_reading fed [])
at_last view r fed longest quads n cr kept slice f e s g =
    let same : reading longest quads n cr slice ≡ fed_reading fed [] = ap (λ (l : List ℕ). reading longest quads n cr l) (s ∙ sym (append-nil kept)) ∙ ap (λ (x : Fed). fed_reading x []) (sym e) in
    subst (λ (x : Found). Gives view r x) same g

pub last_read : {X : Type 0} (view : X → List Quad) (r : Result X TextFault) (fed : Fed) → Gives view r (fed_reading fed []) → IfOk r (λ v. ReadsWith fed [] (view v))
last_read view (Ok x) fed g = reads_with fed [] (view x) g
last_read view (Err e) fed g = tt

pub last_refused : {X : Type 0} (view : X → List Quad) (r : Result X TextFault) (fed : Fed) → Gives view r (fed_reading fed []) → RefusedFor (FaultWith fed []) r
last_refused view (Ok x) fed g = tt
last_refused view (Err OutOfMemory) fed g = tt
last_refused view (Err (Bad n why)) fed g = fault_with fed [] n why g
