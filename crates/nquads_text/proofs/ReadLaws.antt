-- The reader of lines, and what a text reads as.
use Rattle.std.specs.List.{All}
use Rattle.std.proofs.Common.{ℕ, zero, suc, ◌≡◌, ◌+◌, ◌⊎◌, inl, inr, List, [], ◌∷◌, ◌++◌, length, Option, Some, None, Result, Ok, Err, refl, ap, sym, subst, ◌∙◌, arith, append_assoc, append-nil}
use Rattle.list_laws.proofs.Each.{all_so}
use Rattle.rdf_terms.specs.Sizes.{IsShortTriple}
use Rattle.rdf_terms.specs.declared.term.Quad.{Quad}
use Rattle.nquads_text.specs.declared.fault.Why.{Why}
use Rattle.std.specs.Option.{option_to_list}
use Rattle.std.specs.List.{AllByRecursion}
use Rattle.nquads_text.specs.Line.{line_read}
use Rattle.nquads_text.specs.declared.fault.TextFault.{TextFault}
use Rattle.nquads_text.specs.declared.fault.TextFault.TheVariants.{Bad, OutOfMemory}
use Rattle.nquads_text.specs.Lines.{with_quad, after_line, read_lines, text_read, Gives}
use Rattle.nquads_text.specs.Quads.{IsReadable}
use Rattle.nquads_text.specs.Reads.{lines_of, ReadsLine, ReadsLines, Reads, FirstFault, IsOkOrMemory, IsBadOrMemory}
use Rattle.nquads_text.proofs.LineLaws.{line_reads, line_faults, reads_line, faults_line, line_readable}

abbrev Found : Type 0
Found = Result (List Quad) (ℕ × Why)

pub ok_same : (x y : List Quad) → ◌≡◌ {A = Found} (Ok x) (Ok y) → x ≡ y
ok_same x y e = cc

pub err_same : (x y : ℕ × Why) → ◌≡◌ {A = Found} (Err x) (Err y) → x ≡ y
err_same x y e = cc

pub apart : (x : List Quad) (y : ℕ × Why) → ◌≡◌ {A = Found} (Ok x) (Err y) → ⊥
apart x y e = cc

-- the answer of a reader that gives quads, and of one that gives a fault
pub ok_of : {X : Type 0} (view : X → List Quad) (quads : List Quad) (r : Result X TextFault) → Gives view r (Ok quads) → IsOkOrMemory (λ v. view v ≡ quads) r
ok_of view quads (Ok x) g = sym (ok_same quads (view x) g)
ok_of view quads (Err OutOfMemory) g = tt
ok_of view quads (Err (Bad n why)) g = apart quads (n, why) g

pub bad_of : {X : Type 0} (view : X → List Quad) (n : ℕ) (why : Why) (r : Result X TextFault) → Gives view r (Err (n, why)) → IsBadOrMemory n why r
bad_of view n why (Ok x) g = apart (view x) (n, why) (sym g)
bad_of view n why (Err OutOfMemory) g = tt
bad_of view n why (Err (Bad m kind)) g = let same : ◌≡◌ {A = ℕ × Why} (n, why) (m, kind) = err_same (n, why) (m, kind) g in (ap (λ (p : ℕ × Why). p.0) (sym same), ap (λ (p : ℕ × Why). p.1) (sym same))

added : (quads more : List Quad) (q : Option Quad) → with_quad quads q ++ more ≡ quads ++ (option_to_list q ++ more)
added quads more None = refl
added quads more (Some q) = append_assoc quads (q ∷ []) more

abbrev pub ReadFrom : ℕ → List Quad → List (List ℕ) → List Quad → Type 0
ReadFrom longest quads lines out = (more : List Quad) × ReadsLines longest lines more × (out ≡ quads ++ more)

reads_step : (longest n : ℕ) (quads out : List Quad) (line : List ℕ) (lines : List (List ℕ)) (r : Result (Option Quad) Why) → line_read longest line ≡ r
    → ((q : Option Quad) → read_lines longest (with_quad quads q) (n + 1) lines ≡ Ok out → ReadFrom longest (with_quad quads q) lines out)
    → after_line n r (λ q. read_lines longest (with_quad quads q) (n + 1) lines) ≡ Ok out → ReadFrom longest quads (line ∷ lines) out
reads_step longest n quads out line lines (Err why) e ih h = cc
reads_step longest n quads out line lines (Ok q) e ih h =
    let r = ih q h in
    (option_to_list q ++ r.0, (q, r.0, line_reads longest line q e, r.1, refl), r.2 ∙ added quads r.0 q)

pub reads : (longest n : ℕ) (quads out : List Quad) (lines : List (List ℕ)) → read_lines longest quads n lines ≡ Ok out → ReadFrom longest quads lines out
reads longest n quads out [] h = ([], refl, sym (ok_same quads out h) ∙ sym (append-nil quads))
reads longest n quads out (line ∷ lines) h = reads_step longest n quads out line lines (line_read longest line) refl (λ q. reads longest (n + 1) (with_quad quads q) out lines) h

pub read_on : (longest n : ℕ) (quads more : List Quad) (front rest : List (List ℕ)) → ReadsLines longest front more → read_lines longest quads n (front ++ rest) ≡ read_lines longest (quads ++ more) (n + length front) rest
read_on longest n quads more [] rest h =
    let place : n ≡ n + 0 = omega arith in
    let whole : quads ≡ quads ++ more = sym (append-nil quads) ∙ ap (λ (l : List Quad). quads ++ l) (sym h) in
    ap (λ (l : List Quad). read_lines longest l n rest) whole ∙ ap (λ (k : ℕ). read_lines longest (quads ++ more) k rest) place
read_on longest n quads more (line ∷ front) rest h =
    let here : read_lines longest quads n (line ∷ (front ++ rest)) ≡ read_lines longest (with_quad quads h.0) (n + 1) (front ++ rest) = ap (λ (r : Result (Option Quad) Why). after_line n r (λ q. read_lines longest (with_quad quads q) (n + 1) (front ++ rest))) (reads_line longest line h.0 h.2) in
    let later = read_on longest (n + 1) (with_quad quads h.0) h.1 front rest h.3 in
    let whole : with_quad quads h.0 ++ h.1 ≡ quads ++ more = added quads h.1 h.0 ∙ ap (λ (l : List Quad). quads ++ l) (sym h.4) in
    let place : (n + 1) + length front ≡ n + length (line ∷ front) = omega arith in
    here ∙ later ∙ ap (λ (l : List Quad). read_lines longest l ((n + 1) + length front) rest) whole ∙ ap (λ (k : ℕ). read_lines longest (quads ++ more) k rest) place

-- lines behind others give their quads behind those
pub reads_append : (longest : ℕ) (xs ys : List (List ℕ)) (a b : List Quad) → ReadsLines longest xs a → ReadsLines longest ys b → ReadsLines longest (xs ++ ys) (a ++ b)
reads_append longest [] ys a b h k = subst (λ (l : List Quad). ReadsLines longest ys (l ++ b)) (sym h) k
reads_append longest (x ∷ xs) ys a b h k = (h.0, h.1 ++ b, h.2, reads_append longest xs ys h.1 b h.3 k, ap (λ (l : List Quad). l ++ b) h.4 ∙ append_assoc (option_to_list h.0) h.1 b)

pub record FaultFrom (longest n : ℕ) (lines : List (List ℕ)) (bad : ℕ × Why) : Type 0 where
  pub front : List (List ℕ)
  pub line : List ℕ
  pub rest : List (List ℕ)
  pub lines_are : lines ≡ front ++ line ∷ rest
  pub place : bad.0 ≡ n + length front
  pub before : (quads : List Quad) × ReadsLines longest front quads
  pub fault : line_read longest line ≡ Err bad.1

fault_step : (longest n : ℕ) (quads : List Quad) (bad : ℕ × Why) (line : List ℕ) (lines : List (List ℕ)) (r : Result (Option Quad) Why) → line_read longest line ≡ r
    → ((q : Option Quad) → read_lines longest (with_quad quads q) (n + 1) lines ≡ Err bad → FaultFrom longest (n + 1) lines bad)
    → after_line n r (λ q. read_lines longest (with_quad quads q) (n + 1) lines) ≡ Err bad → FaultFrom longest n (line ∷ lines) bad
fault_step longest n quads bad line lines (Err why) e ih h =
    let same : ◌≡◌ {A = ℕ × Why} (n, why) bad = err_same (n, why) bad h in
    subst (λ (b : ℕ × Why). FaultFrom longest n (line ∷ lines) b) same (record { front = []; line = line; rest = lines; lines_are = refl; place = omega arith; before = ([], refl); fault = e })
fault_step longest n quads bad line lines (Ok q) e ih h =
    let f = ih q h in
    record {
      front = line ∷ f.front;
      line = f.line;
      rest = f.rest;
      lines_are = ap (λ (l : List (List ℕ)). line ∷ l) f.lines_are;
      place = omega (arith, f.place);
      before = (option_to_list q ++ f.before.0, (q, f.before.0, line_reads longest line q e, f.before.1, refl));
      fault = f.fault;
    }

pub faults : (longest n : ℕ) (quads : List Quad) (bad : ℕ × Why) (lines : List (List ℕ)) → read_lines longest quads n lines ≡ Err bad → FaultFrom longest n lines bad
faults longest n quads bad [] h = cc
faults longest n quads bad (line ∷ lines) h = fault_step longest n quads bad line lines (line_read longest line) refl (λ q. faults longest (n + 1) (with_quad quads q) bad lines) h

pub text_reads : (longest : ℕ) (bytes : List ℕ) (quads : List Quad) → text_read longest bytes ≡ Ok quads → Reads bytes longest quads
unfolding text_read
text_reads longest bytes quads e = let r = reads longest 1 [] quads (lines_of bytes) e in subst (λ (q : List Quad). Reads bytes longest q) (sym r.2) r.1

pub text_faults : (longest : ℕ) (bytes : List ℕ) (n : ℕ) (why : Why) → text_read longest bytes ≡ Err (n, why) → FirstFault bytes longest n why
unfolding text_read
text_faults longest bytes n why e =
    let f = faults longest 1 [] (n, why) (lines_of bytes) e in
    record { front = f.front; line = f.line; rest = f.rest; lines = f.lines_are; place = omega (arith, f.place); before = f.before; fault = line_faults longest f.line why f.fault }

pub reads_text : (longest : ℕ) (bytes : List ℕ) (quads : List Quad) → Reads bytes longest quads → text_read longest bytes ≡ Ok quads
unfolding text_read
reads_text longest bytes quads h = ap (λ (l : List (List ℕ)). read_lines longest [] 1 l) (sym (append-nil (lines_of bytes))) ∙ read_on longest 1 [] quads (lines_of bytes) [] h

pub faults_text : (longest : ℕ) (bytes : List ℕ) (n : ℕ) (why : Why) → FirstFault bytes longest n why → text_read longest bytes ≡ Err (n, why)
unfolding text_read
faults_text longest bytes n why f =
    let to : read_lines longest [] 1 (f.front ++ f.line ∷ f.rest) ≡ read_lines longest ([] ++ f.before.0) (1 + length f.front) (f.line ∷ f.rest) = read_on longest 1 [] f.before.0 f.front (f.line ∷ f.rest) f.before.1 in
    let here : read_lines longest ([] ++ f.before.0) (1 + length f.front) (f.line ∷ f.rest) ≡ Err (1 + length f.front, why) = ap (λ (r : Result (Option Quad) Why). after_line (1 + length f.front) r (λ q. read_lines longest (with_quad ([] ++ f.before.0) q) ((1 + length f.front) + 1) f.rest)) (faults_line longest f.line why f.fault) in
    let place : 1 + length f.front ≡ n = omega (arith, f.place) in
    ap (λ (l : List (List ℕ)). read_lines longest [] 1 l) f.lines ∙ to ∙ here ∙ ap (λ (k : ℕ). let r : Found = Err (k, why) in r) place

either : (longest : ℕ) (bytes : List ℕ) (r : Found) → text_read longest bytes ≡ r → ((quads : List Quad) × Reads bytes longest quads) ⊎ ((n : ℕ) × (why : Why) × FirstFault bytes longest n why)
either longest bytes (Ok quads) e = inl (quads, text_reads longest bytes quads e)
either longest bytes (Err bad) e = inr (bad.0, bad.1, text_faults longest bytes bad.0 bad.1 e)

pub one_of_two : (longest : ℕ) (bytes : List ℕ) → ((quads : List Quad) × Reads bytes longest quads) ⊎ ((n : ℕ) × (why : Why) × FirstFault bytes longest n why)
one_of_two longest bytes = either longest bytes (text_read longest bytes) refl

pub not_both : (longest : ℕ) (bytes : List ℕ) (quads : List Quad) (n : ℕ) (why : Why) → Reads bytes longest quads → FirstFault bytes longest n why → ⊥
not_both longest bytes quads n why r f = let e : ◌≡◌ {A = Found} (Ok quads) (Err (n, why)) = sym (reads_text longest bytes quads r) ∙ faults_text longest bytes n why f in apart quads (n, why) e

line_all : (longest : ℕ) (line : List ℕ) (q : Option Quad) (rest : List Quad) → ReadsLine longest line q → AllByRecursion (IsReadable longest) rest → AllByRecursion (IsReadable longest) (option_to_list q ++ rest)
line_all longest line None rest h r = r
line_all longest line (Some q) rest h r = (line_readable longest line q h, r)

lines_all : (longest : ℕ) (lines : List (List ℕ)) (quads : List Quad) → ReadsLines longest lines quads → AllByRecursion (IsReadable longest) quads
lines_all longest [] quads h = subst (λ (l : List Quad). AllByRecursion (IsReadable longest) l) (sym h) tt
lines_all longest (line ∷ lines) quads h = subst (λ (l : List Quad). AllByRecursion (IsReadable longest) l) (sym h.4) (line_all longest line h.0 h.1 h.2 (lines_all longest lines h.1 h.3))

pub all_readable : (bytes : List ℕ) (longest : ℕ) (quads : List Quad) → Reads bytes longest quads → AllByRecursion (IsReadable longest) quads
all_readable bytes longest quads h = lines_all longest (lines_of bytes) quads h

short_quad : (longest : ℕ) (q : Quad) → IsReadable longest q → IsShortTriple longest q.triple
short_quad longest q r = record { subject = record { fits = r.subject.fits; label = r.subject.label }; predicate = record { fits = r.predicate.fits; label = r.predicate.label }; object = record { fits = r.object.fits; label = r.object.label } }

-- the terms of such quads are short
pub short_quads : (longest : ℕ) (quads : List Quad) → AllByRecursion (IsReadable longest) quads → AllByRecursion (λ (q : Quad). IsShortTriple longest q.triple) quads
short_quads longest quads h = all_so (IsReadable longest) (λ (q : Quad). IsShortTriple longest q.triple) (short_quad longest) quads h

-- a test that holds of each holds at each place
pub at_each : {P R : Quad → Type 0} → ((q : Quad) → P q → R q) → (quads : List Quad) → AllByRecursion P quads → All R quads
at_each f [] h k d l = absurd (omega arith)
at_each f (q ∷ quads) h zero d l = f q h.0
at_each f (q ∷ quads) h (suc k) d l = at_each f quads h.1 k d (omega arith)
