-- The reader of a line gives what the relations say.
use Rattle.std.proofs.Common.{ℕ, ◌≡◌, ◌⊎◌, inl, inr, Bool, if◌then◌else◌, true, false, List, Option, Some, None, Result, Ok, Err, refl, ap, sym, subst, ◌∙◌}
use Rattle.std.specs.Option.{option_map}
use Rattle.std.specs.Str.{IsUtf8, is_utf8}
use Rattle.std.proofs.lemmas.Str.{IsUtf8-from_is_utf8, is_utf8-from_IsUtf8}
use Rattle.std.proofs.lemmas.Bool.{cases_Bool, both_ways}
use Rattle.rdf_terms.specs.declared.term.Quad.{Quad}
use Rattle.nquads_text.specs.declared.fault.Why.{Why}
use Rattle.nquads_text.specs.declared.fault.Why.TheVariants.{Utf8, Statement, Escape, RelativeIri, LangString, TermTooLong}
use Rattle.nquads_text.specs.Grammar.{HasNoStatement, IsStatement}
use Rattle.nquads_text.specs.Meaning.{MeansQuad}
use Rattle.nquads_text.specs.Faults.{is_relative, has_lang_string, is_too_long, some_term, fault_of}
use Rattle.nquads_text.specs.Reads.{ReadsLine, HasFault, HasQuadFault}
use Rattle.nquads_text.specs.Scan.{skipped, is_over}
use Rattle.nquads_text.specs.Raw.{statement_of, line_form}
use Rattle.nquads_text.specs.Line.{or_fault, checked, quad_of, some_quad, line_read, resolved_quad, IsWritten}
use Rattle.nquads_text.specs.Quads.{IsReadable}
use Rattle.nquads_text.proofs.Statements.{none_over, over_none, statement_some}
use Rattle.nquads_text.proofs.Complete.{statement_read}
use Rattle.nquads_text.proofs.Written.{written}
use Rattle.nquads_text.proofs.Meanings.{quad_means, quad_bad, means_quad, bad_quad, quad_readable}

abbrev Outcome : Type 0
Outcome = Result (Option Quad) Why

-- ---- what the reader gives in each case

not_text : (longest : ℕ) (line : List ℕ) → is_utf8 line ≡ false → line_read longest line ≡ Err Utf8
unfolding line_read
not_text longest line u = rw u refl

no_statement : (longest : ℕ) (line : List ℕ) → is_utf8 line ≡ true → is_over (skipped line) ≡ true → line_read longest line ≡ Ok None
unfolding line_read line_form
no_statement longest line u o = rw (u, o) refl

no_form : (longest : ℕ) (line : List ℕ) → is_utf8 line ≡ true → is_over (skipped line) ≡ false → statement_of (skipped line) ≡ None → line_read longest line ≡ Err Statement
unfolding line_read line_form
no_form longest line u o s = rw (u, o, s) refl

a_statement : (longest : ℕ) (line : List ℕ) (raw : Quad) → is_utf8 line ≡ true → is_over (skipped line) ≡ false → statement_of (skipped line) ≡ Some raw → line_read longest line ≡ some_quad (checked longest (resolved_quad raw))
unfolding line_read line_form quad_of
a_statement longest line raw u o s = rw (u, o, s) refl

-- ---- what it gives is so

abbrev Sound : ℕ → List ℕ → Outcome → Type 0
Sound longest line (Ok q) = ReadsLine longest line q
Sound longest line (Err why) = HasFault longest line why

by_fault : (a b d : Bool) (why : Why) → (if a then Some RelativeIri else (if b then Some LangString else (if d then Some TermTooLong else None))) ≡ Some why → (why ≡ RelativeIri) ⊎ ((why ≡ LangString) ⊎ (why ≡ TermTooLong))
by_fault true b d why e = inl (cc)
by_fault false true d why e = inr (inl (cc))
by_fault false false true why e = inr (inr (cc))
by_fault false false false why e = cc

has_fault : (longest : ℕ) (line : List ℕ) (why : Why) → (why ≡ RelativeIri) ⊎ ((why ≡ LangString) ⊎ (why ≡ TermTooLong)) → HasQuadFault longest line why → HasFault longest line why
has_fault longest line why (inl e) h = subst (λ (w : Why). HasFault longest line w) (sym e) (subst (λ (w : Why). HasQuadFault longest line w) e h)
has_fault longest line why (inr (inl e)) h = subst (λ (w : Why). HasFault longest line w) (sym e) (subst (λ (w : Why). HasQuadFault longest line w) e h)
has_fault longest line why (inr (inr e)) h = subst (λ (w : Why). HasFault longest line w) (sym e) (subst (λ (w : Why). HasQuadFault longest line w) e h)

sound_quad : (longest : ℕ) (line : List ℕ) (raw q : Quad) (f : Option Why) → IsUtf8 line → IsStatement line raw → MeansQuad raw q → fault_of longest q ≡ f → Sound longest line (some_quad (or_fault q f))
sound_quad longest line raw q None u st m e = (u, (raw, st, m, e))
sound_quad longest line raw q (Some why) u st m e =
    has_fault longest line why (by_fault (some_term is_relative q) (some_term has_lang_string q) (some_term (is_too_long longest) q) why e) (u, (raw, q, st, m, e))

sound_raw : (longest : ℕ) (line : List ℕ) (raw : Quad) (x : Option Quad) → IsUtf8 line → IsStatement line raw → resolved_quad raw ≡ x → Sound longest line (some_quad (checked longest x))
sound_raw longest line raw None u st e = (u, (raw, st, quad_bad raw (written line raw u st) e))
sound_raw longest line raw (Some q) u st e = sound_quad longest line raw q (fault_of longest q) u st (quad_means raw q (written line raw u st) e) refl

none_some : {A : Type 0} (o : Option A) (x : A) → o ≡ None → o ≡ Some x → ⊥
none_some None x e f = cc
none_some (Some y) x e f = cc

sound_form : (longest : ℕ) (line : List ℕ) → is_utf8 line ≡ true → is_over (skipped line) ≡ false → (x : Option Quad) → statement_of (skipped line) ≡ x → Sound longest line (line_read longest line)
sound_form longest line u o None s =
    subst (λ (r : Outcome). Sound longest line r) (sym (no_form longest line u o s)) (
      IsUtf8-from_is_utf8 line u,
      λ h. both_ways (is_over (skipped line)) o (none_over line h),
      λ raw st. none_some (statement_of (skipped line)) raw s (statement_read line raw st).read,
    )
sound_form longest line u o (Some raw) s =
    subst (λ (r : Outcome). Sound longest line r) (sym (a_statement longest line raw u o s)) (sound_raw longest line raw (resolved_quad raw) (IsUtf8-from_is_utf8 line u) (statement_some line raw s) refl)

sound_text : (longest : ℕ) (line : List ℕ) → is_utf8 line ≡ true → (is_over (skipped line) ≡ true) ⊎ (is_over (skipped line) ≡ false) → Sound longest line (line_read longest line)
sound_text longest line u (inl o) = subst (λ (r : Outcome). Sound longest line r) (sym (no_statement longest line u o)) (IsUtf8-from_is_utf8 line u, over_none line o)
sound_text longest line u (inr o) = sound_form longest line u o (statement_of (skipped line)) refl

sound_by : (longest : ℕ) (line : List ℕ) → (is_utf8 line ≡ true) ⊎ (is_utf8 line ≡ false) → Sound longest line (line_read longest line)
sound_by longest line (inl u) = sound_text longest line u (cases_Bool (is_over (skipped line)))
sound_by longest line (inr u) = subst (λ (r : Outcome). Sound longest line r) (sym (not_text longest line u)) (λ v. both_ways (is_utf8 line) u (is_utf8-from_IsUtf8 line v))

sound : (longest : ℕ) (line : List ℕ) → Sound longest line (line_read longest line)
sound longest line = sound_by longest line (cases_Bool (is_utf8 line))

pub line_reads : (longest : ℕ) (line : List ℕ) (q : Option Quad) → line_read longest line ≡ Ok q → ReadsLine longest line q
line_reads longest line q e = subst (λ (r : Outcome). Sound longest line r) e (sound longest line)

pub line_faults : (longest : ℕ) (line : List ℕ) (why : Why) → line_read longest line ≡ Err why → HasFault longest line why
line_faults longest line why e = subst (λ (r : Outcome). Sound longest line r) e (sound longest line)

-- ---- what is so it gives

of_quad : (longest : ℕ) (line : List ℕ) (raw q : Quad) (f : Option Why) → IsUtf8 line → IsStatement line raw → MeansQuad raw q → fault_of longest q ≡ f → line_read longest line ≡ some_quad (or_fault q f)
of_quad longest line raw q f u st m e =
    let r = statement_read line raw st in
    a_statement longest line raw (is_utf8-from_IsUtf8 line u) r.not_over r.read ∙ ap (λ (x : Option Quad). some_quad (checked longest x)) (means_quad raw q m) ∙ ap (λ (x : Option Why). some_quad (or_fault q x)) e

pub reads_line : (longest : ℕ) (line : List ℕ) (q : Option Quad) → ReadsLine longest line q → line_read longest line ≡ Ok q
reads_line longest line None h = no_statement longest line (is_utf8-from_IsUtf8 line h.0) (none_over line h.1)
reads_line longest line (Some q) h = of_quad longest line h.1.0 q None h.0 h.1.1 h.1.2 h.1.3

of_quad_fault : (longest : ℕ) (line : List ℕ) (why : Why) → HasQuadFault longest line why → line_read longest line ≡ Err why
of_quad_fault longest line why h = of_quad longest line h.1.0 h.1.1 (Some why) h.0 h.1.2 h.1.3 h.1.4

no_text : (line : List ℕ) (k : Bool) → is_utf8 line ≡ k → (IsUtf8 line → ⊥) → is_utf8 line ≡ false
no_text line true e h = absurd (h (IsUtf8-from_is_utf8 line e))
no_text line false e h = e

no_over : (line : List ℕ) (k : Bool) → is_over (skipped line) ≡ k → (HasNoStatement line → ⊥) → is_over (skipped line) ≡ false
no_over line true e h = absurd (h (over_none line e))
no_over line false e h = e

no_raw : (line : List ℕ) (x : Option Quad) → statement_of (skipped line) ≡ x → ((raw : Quad) → IsStatement line raw → ⊥) → statement_of (skipped line) ≡ None
no_raw line None e h = e
no_raw line (Some raw) e h = absurd (h raw (statement_some line raw e))

pub faults_line : (longest : ℕ) (line : List ℕ) (why : Why) → HasFault longest line why → line_read longest line ≡ Err why
faults_line longest line Utf8 h = not_text longest line (no_text line (is_utf8 line) refl h)
faults_line longest line Statement h =
    no_form longest line (is_utf8-from_IsUtf8 line h.0) (no_over line (is_over (skipped line)) refl h.1) (no_raw line (statement_of (skipped line)) refl h.2)
faults_line longest line Escape h =
    let r = statement_read line h.1.0 h.1.1 in
    a_statement longest line h.1.0 (is_utf8-from_IsUtf8 line h.0) r.not_over r.read ∙ ap (λ (x : Option Quad). some_quad (checked longest x)) (bad_quad h.1.0 h.1.2)
faults_line longest line RelativeIri h = of_quad_fault longest line RelativeIri h
faults_line longest line LangString h = of_quad_fault longest line LangString h
faults_line longest line TermTooLong h = of_quad_fault longest line TermTooLong h

-- ---- what is read is readable

pub line_readable : (longest : ℕ) (line : List ℕ) (q : Quad) → ReadsLine longest line (Some q) → IsReadable longest q
line_readable longest line q h = quad_readable longest h.1.0 q (written line h.1.0 h.0 h.1.1) h.1.1.classes h.1.2 h.1.3

-- the raw statement that the reader found
pub form_written : (line : List ℕ) (raw : Quad) → IsUtf8 line → line_form line ≡ Some (Some raw) → IsWritten raw
unfolding line_form
form_written line raw u e = written line raw u (statement_some line raw (found (is_over (skipped line)) (statement_of (skipped line)) e))
  where
    found : (k : Bool) (x : Option Quad) → (if k then Some None else option_map (λ q. Some q) x) ≡ Some (Some raw) → x ≡ Some raw
    found true x e = cc
    found false None e = cc
    found false (Some y) e = cc
