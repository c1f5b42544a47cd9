use Rattle.std.proofs.Common.{append_assoc, length-append, ◌≡◌, ℕ, suc, zero, ◌+◌, ◌<◌, Bool, true, false, ◌==◌, List, [], ◌∷◌, ◌++◌, length, Option, Some, None, option_map, refl, sym, ap, ap₂, if◌then◌else◌, ◌∙◌, subst, arith}
use Rattle.std.proofs.lemmas.Grind.{common_steps}
use Rattle.std.proofs.lemmas.List.Elements.{All-head, All-tail, All-cons, All-nil}
use Rattle.std.proofs.lemmas.Bool.{eqb-true}
use Rattle.std.specs.List.{flat_map}
use Rattle.std.specs.Prelude.{take, drop, bytes_eq, codes, ◌≤◌}
use Rattle.std.specs.Str.{is_utf8}
use Rattle.std.proofs.lemmas.Str.{IsUtf8-from_is_utf8, is_utf8-from_IsUtf8}
use Rattle.std.proofs.lemmas.List.{take-append-drop}
use Rattle.std.proofs.lemmas.Slice.Eq.{bytes_eq-Decides}
use Rattle.list_laws.proofs.Tests.{equals_itself}
use Rattle.httparse.proofs.GrammarLemmas.{request_pieces, request_from_pieces}
use Rattle.httparse.proofs.PieceLemmas.{Stops_value, Stops_token, print_field-append}
use Rattle.httparse.specs.Grammar.{LineEnd, crlf, lf, print_end, AllPass, is_value_byte, is_token_byte, Field, IsField, print_field, print_section, ReadsSection, is_uri_byte, RequestHead, ReadsRequest, print_blank}
use Rattle.httparse.specs.Pieces.{Piece, Then, Newline, Word, Text, Stops, FieldLine, Section, is_newline, Version, Target, Method}
use Rattle.tpf_base.specs.HttpReader.{Reader, IsReaderOf, paired, then_next, read_then, read_newline, split_run, word_of, read_word, text_of, read_text, read_field, field_of, onto_section, Section_read, section_after, section_at, read_section_in, minor_of, read_version, kept, read_target, read_section, Line, read_line, read_parts, head_of, read_request, read_space, read_digit, read_reason, with_phrase, without_phrase, StatusLine, read_status_line, read_response_parts, response_of, read_response}
use Rattle.httparse.proofs.GrammarLemmas.{response_pieces, response_from_pieces}
use Rattle.httparse.specs.Pieces.{Bytes, Digit, Code, Reason}
use Rattle.httparse.specs.Grammar.{ResponseHead, ReadsResponse}
use Rattle.std.specs.Prelude.{⊤}

module _ {A B : Type 0} (r : Reader A) (q : Reader B) (G : Piece A) (H : Piece B) (left : IsReaderOf r G) (right : IsReaderOf q H) where
  second_sound : (a : A) (text middle : List ℕ) → r text ≡ Some (a, middle) → (o : Option (B × List ℕ)) → q middle ≡ o
      → (ab : A × B) (rest : List ℕ) → option_map (paired a) o ≡ Some (ab, rest) → Then G H ab text rest
  second_sound a text middle e None f ab rest h = absurd cc
  second_sound a text middle e (Some y) f ab rest h =
      let same : (ab, rest) ≡ paired a y = cc in
      let same_a : ab.0 ≡ a = ap (λ (x : (A × B) × List ℕ). x.0.0) same in
      let same_b : ab.1 ≡ y.0 = ap (λ (x : (A × B) × List ℕ). x.0.1) same in
      let same_rest : rest ≡ y.1 = ap (λ (x : (A × B) × List ℕ). x.1) same in
      let whole : q middle ≡ Some (ab.1, rest) = rw (same_b, same_rest) f in
      (middle, left.sound ab.0 text middle (rw same_a e), right.sound ab.1 middle rest whole)

  first_sound : (text : List ℕ) (o : Option (A × List ℕ)) → r text ≡ o → (ab : A × B) (rest : List ℕ) → then_next q o ≡ Some (ab, rest) → Then G H ab text rest
  first_sound text None e ab rest h = absurd cc
  first_sound text (Some x) e ab rest h = second_sound x.0 text x.1 e (q x.1) refl ab rest h

  pub then_reader : IsReaderOf (read_then r q) (Then G H)
  then_reader = record {
    sound = λ ab text rest h. first_sound text (r text) refl ab rest h;
    complete = λ ab text rest x.
        ap (then_next q) (left.complete ab.0 text x.0 x.1) ∙ ap (option_map (paired ab.0)) (right.complete ab.1 x.0 rest x.2);
  }

newline_complete : (end : LineEnd) (text rest : List ℕ) → Newline end text rest → read_newline text ≡ Some (end, rest)
newline_complete crlf text rest h = ap read_newline h
newline_complete lf text rest h = ap read_newline h

newline_sound : (end : LineEnd) (text rest : List ℕ) → read_newline text ≡ Some (end, rest) → Newline end text rest
newline_sound end [] rest h = absurd cc
newline_sound end (b ∷ []) rest h = grind (arith, common_steps)
newline_sound end (b ∷ c ∷ bs) rest h = grind (arith, common_steps)

pub newline_reader : IsReaderOf read_newline Newline
newline_reader = record { sound = newline_sound; complete = newline_complete }

-- ---- runs

abbrev AllPassR : (ℕ → Bool) → List ℕ → Type 0
AllPassR test [] = Unit {0}
AllPassR test (b ∷ bs) = (test b ≡ true) × AllPassR test bs

run_stops : (test : ℕ → Bool) (run rest : List ℕ) → AllPassR test run → Stops test rest → split_run test (run ++ rest) ≡ (run, rest)
unfolding split_run
run_stops test [] [] all stops = absurd stops
run_stops test [] (b ∷ rest) all stops = rw stops refl
run_stops test (b ∷ run) rest all stops = rw (all.0, run_stops test run rest all.1 stops) refl

to_r : (test : ℕ → Bool) (bs : List ℕ) → AllPass test bs → AllPassR test bs
to_r test [] all = tt
to_r test (b ∷ bs) all = (All-head (λ v. test v ≡ true) b bs all, to_r test bs (All-tail (λ v. test v ≡ true) b bs all))

from_r : (test : ℕ → Bool) (bs : List ℕ) → AllPassR test bs → AllPass test bs
from_r test [] all = All-nil (λ v. test v ≡ true)
from_r test (b ∷ bs) all = All-cons (λ v. test v ≡ true) b bs all.0 (from_r test bs all.1)

-- one more byte of a run, or its end
abbrev step_of : Bool → ℕ → List ℕ → List ℕ × List ℕ → List ℕ × List ℕ
step_of v b bs run = if v then (b ∷ run.0, run.1) else ([], b ∷ bs)

run_step : (test : ℕ → Bool) (b : ℕ) (bs : List ℕ) (run : List ℕ × List ℕ) → (bs ≡ run.0 ++ run.1) → AllPassR test run.0
    → (v : Bool) → test b ≡ v → ((b ∷ bs) ≡ (step_of v b bs run).0 ++ (step_of v b bs run).1) × AllPassR test (step_of v b bs run).0
run_step test b bs run whole all true e = (ap (λ (x : List ℕ). b ∷ x) whole, (e, all))
run_step test b bs run whole all false e = (refl, tt)

-- a run is a front of the text, and its bytes pass
run_parts : (test : ℕ → Bool) (text : List ℕ) → (text ≡ (split_run test text).0 ++ (split_run test text).1) × AllPassR test (split_run test text).0
unfolding split_run
run_parts test [] = (refl, tt)
run_parts test (b ∷ bs) = run_step test b bs (split_run test bs) (run_parts test bs).0 (run_parts test bs).1 (test b) refl

word_complete : (test : ℕ → Bool) (stop : ℕ) → test stop ≡ false → (w text rest : List ℕ) → Word test stop w text rest → read_word test stop text ≡ Some (w, rest)
word_complete test stop ends [] text rest x = absurd (omega arith)
word_complete test stop ends (b ∷ bs) text rest x =
    ap (read_word test stop) x.2 ∙ ap (word_of stop) (run_stops test (b ∷ bs) (stop ∷ rest) (to_r test (b ∷ bs) x.1) ends)
    ∙ (rw (equals_itself stop) refl)

word_sound_at : (stop : ℕ) (run : List ℕ × List ℕ) (w rest : List ℕ) → word_of stop run ≡ Some (w, rest) → (0 < length w) × (run.0 ≡ w) × (run.1 ≡ stop ∷ rest)
word_sound_at stop ([], left) w rest h = absurd cc
word_sound_at stop (b ∷ bs, []) w rest h = absurd cc
word_sound_at stop (b ∷ bs, c ∷ left) w rest h = grind (arith, common_steps, eqb-true)

word_sound : (test : ℕ → Bool) (stop : ℕ) (w text rest : List ℕ) → read_word test stop text ≡ Some (w, rest) → Word test stop w text rest
word_sound test stop w text rest h =
    let parts = run_parts test text in
    let found = word_sound_at stop (split_run test text) w rest h in
    (found.0, subst (λ (x : List ℕ). AllPass test x) found.1 (from_r test _ parts.1), parts.0 ∙ ap₂ (λ (x y : List ℕ). x ++ y) found.1 found.2)

pub word_reader : (test : ℕ → Bool) (stop : ℕ) → test stop ≡ false → IsReaderOf (read_word test stop) (Word test stop)
word_reader test stop ends = record { sound = word_sound test stop; complete = word_complete test stop ends }

text_complete : (t : List ℕ × LineEnd) (text rest : List ℕ) → Text t text rest → read_text is_value_byte text ≡ Some (t, rest)
text_complete t text rest x =
    ap (read_text is_value_byte) x.1 ∙ ap text_of (run_stops is_value_byte t.0 (print_end t.1 ++ rest) (to_r is_value_byte t.0 x.0) (Stops_value t.1 rest))
    ∙ ap (option_map (paired t.0)) (newline_complete t.1 (print_end t.1 ++ rest) rest refl)

text_sound_at : (run : List ℕ × List ℕ) (o : Option (LineEnd × List ℕ)) → read_newline run.1 ≡ o → (t : List ℕ × LineEnd) (rest : List ℕ)
    → option_map (paired run.0) o ≡ Some (t, rest) → (run.0 ≡ t.0) × (run.1 ≡ print_end t.1 ++ rest)
text_sound_at run None e t rest h = absurd cc
text_sound_at run (Some y) e t rest h =
    let same : (t, rest) ≡ paired run.0 y = cc in
    let same_run : t.0 ≡ run.0 = ap (λ (x : (List ℕ × LineEnd) × List ℕ). x.0.0) same in
    let same_end : t.1 ≡ y.0 = ap (λ (x : (List ℕ × LineEnd) × List ℕ). x.0.1) same in
    let same_rest : rest ≡ y.1 = ap (λ (x : (List ℕ × LineEnd) × List ℕ). x.1) same in
    let whole : read_newline run.1 ≡ Some (t.1, rest) = rw (same_end, same_rest) e in
    (sym same_run, newline_sound t.1 run.1 rest whole)

text_sound : (t : List ℕ × LineEnd) (text rest : List ℕ) → read_text is_value_byte text ≡ Some (t, rest) → Text t text rest
text_sound t text rest h =
    let parts = run_parts is_value_byte text in
    let found = text_sound_at (split_run is_value_byte text) (read_newline (split_run is_value_byte text).1) refl t rest h in
    (subst (λ (x : List ℕ). AllPass is_value_byte x) found.0 (from_r is_value_byte _ parts.1), parts.0 ∙ ap₂ (λ (x y : List ℕ). x ++ y) found.0 found.1)

pub text_reader : IsReaderOf (read_text is_value_byte) Text
text_reader = record { sound = text_sound; complete = text_complete }

-- ---- field lines

abbrev FieldTree : Type 0
FieldTree = List ℕ × (List ℕ × LineEnd)

abbrev tree_of : Field → FieldTree
tree_of f = (f.name, (f.raw, f.end))

abbrev of_tree : FieldTree → Field
of_tree t = record { name = t.0; raw = t.1.0; end = t.1.1 }

field_parts : IsReaderOf (read_then (read_word is_token_byte 58) (read_text is_value_byte)) (Then (Word is_token_byte 58) Text)
unfolding is_token_byte
field_parts = then_reader (read_word is_token_byte 58) (read_text is_value_byte) (Word is_token_byte 58) Text (word_reader is_token_byte 58 refl) text_reader

field_complete : (f : Field) (text rest : List ℕ) → FieldLine f text rest → read_field text ≡ Some (f, rest)
field_complete f text rest x =
    ap field_of (field_parts.complete (tree_of f) text rest (f.raw ++ (print_end f.end ++ rest), (x.0.name.0, x.0.name.1, x.1 ∙ print_field-append f rest), (x.0.raw, refl)))

field_sound_at : (o : Option (FieldTree × List ℕ)) (text : List ℕ) → read_then (read_word is_token_byte 58) (read_text is_value_byte) text ≡ o
    → (f : Field) (rest : List ℕ) → field_of o ≡ Some (f, rest) → FieldLine f text rest
field_sound_at None text e f rest h = absurd cc
field_sound_at (Some y) text e f rest h =
    let same : (of_tree y.0, y.1) ≡ (f, rest) = cc in
    let same_f : of_tree y.0 ≡ f = ap (λ (x : Field × List ℕ). x.0) same in
    let same_rest : y.1 ≡ rest = ap (λ (x : Field × List ℕ). x.1) same in
    let parts = field_parts.sound y.0 text y.1 e in
    let line : FieldLine (of_tree y.0) text y.1 =
    (record { name = (parts.1.0, parts.1.1); raw = parts.2.0 }, parts.1.2 ∙ ap (λ (x : List ℕ). y.0.0 ++ 58 ∷ x) parts.2.1 ∙ sym (print_field-append (of_tree y.0) y.1)) in
    subst (λ (x : List ℕ). FieldLine f text x) same_rest (subst (λ (x : Field). FieldLine x text y.1) same_f line)

field_sound : (f : Field) (text rest : List ℕ) → read_field text ≡ Some (f, rest) → FieldLine f text rest
field_sound f text rest h = field_sound_at (read_then (read_word is_token_byte 58) (read_text is_value_byte) text) text refl f rest h

pub field_reader : IsReaderOf read_field FieldLine
field_reader = record { sound = field_sound; complete = field_complete }

-- ---- sections

regroup : (p q e r : List ℕ) → ((p ++ q) ++ e) ++ r ≡ p ++ ((q ++ e) ++ r)
regroup p q e r = simp append_assoc

no_newline : (text : List ℕ) → Stops is_newline text → read_newline text ≡ None
no_newline [] h = absurd h
no_newline (b ∷ bs) h = grind (arith, common_steps)

fewer : (k n : ℕ) → suc k < suc n → k < n
fewer k n h = omega arith

section_complete : (n : ℕ) (fields : List Field) (last : LineEnd) (text rest : List ℕ) → length fields < n
    → ReadsSection text fields last rest → read_section_in n text ≡ Some ((fields, last), rest)
unfolding read_section_in
section_complete zero fields last text rest few x = absurd (omega arith)
section_complete (suc n) [] last text rest few x =
    ap (section_at (read_section_in n) text) (newline_complete last text rest x.1)
section_complete (suc n) (f ∷ fields) last text rest few x =
    let ok : IsField f = All-head IsField f fields x.0 in
    let split : text ≡ print_field f ++ (print_section fields last ++ rest) = x.1 ∙ regroup (print_field f) (flat_map print_field fields) (print_end last) rest in
    let begins : Stops is_newline text = subst (Stops is_newline) (sym (split ∙ print_field-append f _)) (Stops_token f.name _ ok.name.0 ok.name.1) in
    ap (section_at (read_section_in n) text) (no_newline text begins)
    ∙ ap (section_after (read_section_in n)) (field_complete f text (print_section fields last ++ rest) (ok, split))
    ∙ ap (option_map (onto_section f)) (section_complete n fields last (print_section fields last ++ rest) rest (fewer (length fields) n few) (All-tail IsField f fields x.0, refl))

abbrev SectionTree : Type 0
SectionTree = List Field × LineEnd

abbrev ReadsBy : SectionTree × List ℕ → List ℕ → Type 0
ReadsBy x text = ReadsSection text x.0.0 x.0.1 x.1

module _ (next : List ℕ → Section_read) (sound : (text : List ℕ) (x : SectionTree × List ℕ) → next text ≡ Some x → ReadsBy x text) where
  rest_sound : (text : List ℕ) (f : Field) (middle : List ℕ) → FieldLine f text middle → (o : Section_read) → next middle ≡ o
      → (x : SectionTree × List ℕ) → option_map (onto_section f) o ≡ Some x → ReadsBy x text
  rest_sound text f middle line None e x h = absurd cc
  rest_sound text f middle line (Some y) e x h =
      let same : onto_section f y ≡ x = cc in
      let others = sound middle y e in
      let whole : ReadsBy (onto_section f y) text =
      (All-cons IsField f y.0.0 line.0 others.0, line.1 ∙ ap (λ (z : List ℕ). print_field f ++ z) others.1 ∙ sym (regroup (print_field f) (flat_map print_field y.0.0) (print_end y.0.1) y.1)) in
      subst (λ (z : SectionTree × List ℕ). ReadsBy z text) same whole

  after_sound : (text : List ℕ) (o : Option (Field × List ℕ)) → read_field text ≡ o → (x : SectionTree × List ℕ) → section_after next o ≡ Some x → ReadsBy x text
  after_sound text None e x h = absurd cc
  after_sound text (Some y) e x h = rest_sound text y.0 y.1 (field_sound y.0 text y.1 e) (next y.1) refl x h

  at_sound : (text : List ℕ) (o : Option (LineEnd × List ℕ)) → read_newline text ≡ o → (x : SectionTree × List ℕ) → section_at next text o ≡ Some x → ReadsBy x text
  at_sound text None e x h = after_sound text (read_field text) refl x h
  at_sound text (Some y) e x h =
      let same : (([], y.0), y.1) ≡ x = cc in
      subst (λ (z : SectionTree × List ℕ). ReadsBy z text) same (All-nil IsField, newline_sound y.0 text y.1 e)

section_sound : (n : ℕ) (text : List ℕ) (x : SectionTree × List ℕ) → read_section_in n text ≡ Some x → ReadsBy x text
unfolding read_section_in
section_sound zero text x h = absurd cc
section_sound (suc n) text x h = at_sound (read_section_in n) (section_sound n) text (read_newline text) refl x h

-- ---- the start line

version_complete : (minor : ℕ) (text rest : List ℕ) → Version minor text rest → read_version text ≡ Some (minor, rest)
version_complete zero text rest x = ap read_version x.1
version_complete (suc zero) text rest x = ap read_version x.1
version_complete (suc (suc m)) text rest x = absurd (omega (arith, x.0))

minor_sound : (text : List ℕ) (x : ℕ × List ℕ) → minor_of text ≡ Some x → (x.0 ≤ 1) × (text ≡ (48 + x.0) ∷ x.1)
minor_sound [] x h = absurd cc
minor_sound (m ∷ rest) x h = grind (arith, common_steps, eqb-true)

version_sound_at : (front after : List ℕ) (x : ℕ × List ℕ) (v : Bool) → bytes_eq front (codes "HTTP/1.") ≡ v
    → (if v then minor_of after else None) ≡ Some x → (front ≡ codes "HTTP/1.") × (x.0 ≤ 1) × (after ≡ (48 + x.0) ∷ x.1)
version_sound_at front after x false e h = absurd cc
version_sound_at front after x true e h =
    let found = minor_sound after x h in
    ((bytes_eq-Decides front (codes "HTTP/1.")).0 e, found.0, found.1)

version_sound : (minor : ℕ) (text rest : List ℕ) → read_version text ≡ Some (minor, rest) → Version minor text rest
version_sound minor text rest h =
    let found = version_sound_at (take 7 text) (drop 7 text) (minor, rest) (bytes_eq (take 7 text) (codes "HTTP/1.")) refl h in
    (found.1, sym (take-append-drop 7 text) ∙ ap₂ (λ (x y : List ℕ). x ++ y) found.0 found.2)

pub version_reader : IsReaderOf read_version Version
version_reader = record { sound = version_sound; complete = version_complete }

target_parts : IsReaderOf (read_word is_uri_byte 32) (Word is_uri_byte 32)
target_parts = word_reader is_uri_byte 32 refl

target_complete : (t text rest : List ℕ) → Target t text rest → read_target text ≡ Some (t, rest)
target_complete t text rest x =
    ap (kept is_utf8) (target_parts.complete t text rest x.0) ∙ rw (is_utf8-from_IsUtf8 t x.1) refl

kept_sound : (o : Option (List ℕ × List ℕ)) (x : List ℕ × List ℕ) → kept is_utf8 o ≡ Some x → (o ≡ Some x) × (is_utf8 x.0 ≡ true)
kept_sound None x h = absurd cc
kept_sound (Some y) x h = grind (arith, common_steps)

target_sound : (t text rest : List ℕ) → read_target text ≡ Some (t, rest) → Target t text rest
target_sound t text rest h =
    let found = kept_sound (read_word is_uri_byte 32 text) (t, rest) h in
    (target_parts.sound t text rest found.0, IsUtf8-from_is_utf8 t found.1)

pub target_reader : IsReaderOf read_target Target
target_reader = record { sound = target_sound; complete = target_complete }

-- ---- a whole head

enough : (fields : List Field) (last : LineEnd) (rest : List ℕ) → length fields < length (print_section fields last ++ rest)
enough [] crlf rest = omega arith
enough [] lf rest = omega arith
enough (f ∷ fields) last rest =
    let more = enough fields last rest in
    rw (regroup (print_field f) (flat_map print_field fields) (print_end last) rest) (simp (length-append) (omega (arith, simp length-append at more)))

pub section_reader : IsReaderOf read_section Section
section_reader = record {
  sound = λ s text rest h. section_sound (length text) text (s, rest) h;
  complete = λ s text rest x. section_complete (length text) s.0 s.1 text rest (rw x.1 (enough s.0 s.1 rest)) x;
}

line_reader : IsReaderOf read_line (Then Method (Then Target (Then Version Newline)))
unfolding is_token_byte
line_reader =
    then_reader (read_word is_token_byte 32) _ Method _ (word_reader is_token_byte 32 refl)
    (then_reader read_target _ Target _ target_reader (then_reader read_version read_newline Version Newline version_reader newline_reader))

parts_reader : IsReaderOf read_parts (Then (Then Method (Then Target (Then Version Newline))) Section)
parts_reader = then_reader read_line read_section _ Section line_reader section_reader

-- a text that begins with no newline has no empty lines at its front
no_blank : (ends : List LineEnd) (text rest : List ℕ) → text ≡ print_blank ends ++ rest → Stops is_newline text → ends ≡ []
no_blank [] text rest e stops = refl
no_blank (crlf ∷ ends) text rest e stops = let bad : Stops is_newline (print_blank (crlf ∷ ends) ++ rest) = subst (Stops is_newline) e stops in absurd cc
no_blank (lf ∷ ends) text rest e stops = let bad : Stops is_newline (print_blank (lf ∷ ends) ++ rest) = subst (Stops is_newline) e stops in absurd cc

Inner : Line × (List Field × LineEnd) → List ℕ → List ℕ → Type 0
Inner t text rest = Then (Then Method (Then Target (Then Version Newline))) Section t text rest

pub request_complete : (h : RequestHead) (text rest : List ℕ) → Stops is_newline text → ReadsRequest text h rest → read_request text ≡ Some (h, rest)
unfolding read_request
request_complete h text rest stops x =
    let p = request_pieces text h rest x in
    let empty : h.blank ≡ [] = no_blank h.blank text p.1.0 p.1.1.0 stops in
    let start : text ≡ p.1.0 = subst (λ (b : List LineEnd). text ≡ print_blank b ++ p.1.0) empty p.1.1.0 in
    let tree : Line × (List Field × LineEnd) = ((h.method, (h.target, (h.minor, h.line_end))), (h.fields, h.last)) in
    let inner = parts_reader.complete tree p.1.0 rest (p.0, p.1.2, p.2) in
    let same : head_of tree ≡ h = ap (λ (b : List LineEnd). record h { blank = b }) (sym empty) in
    ap read_request start ∙ ap (option_map (λ x. (head_of x.0, x.1))) inner ∙ ap (λ (k : RequestHead). Some (k, rest)) same

parts_sound : (t : Line × (List Field × LineEnd)) (text rest : List ℕ) → read_parts text ≡ Some (t, rest) → ReadsRequest text (head_of t) rest
parts_sound t text rest h =
    let inner = parts_reader.sound t text rest h in
    let word = inner.1.1 in
    let begins : Stops is_newline text = subst (Stops is_newline) (sym word.2) (Stops_token t.0.0 _ word.0 word.1) in
    request_from_pieces text (([], t.0), t.1) rest (inner.0, (text, (refl, begins), inner.1), inner.2)

request_sound_at : (o : Option ((Line × (List Field × LineEnd)) × List ℕ)) (text : List ℕ) → read_parts text ≡ o → (x : RequestHead × List ℕ)
    → option_map (λ y. (head_of y.0, y.1)) o ≡ Some x → ReadsRequest text x.0 x.1
request_sound_at None text e x h = absurd cc
request_sound_at (Some y) text e x h =
    let same : (head_of y.0, y.1) ≡ x = cc in
    subst (λ (z : RequestHead × List ℕ). ReadsRequest text z.0 z.1) same (parts_sound y.0 text y.1 e)

pub request_sound : (h : RequestHead) (text rest : List ℕ) → read_request text ≡ Some (h, rest) → ReadsRequest text h rest
unfolding read_request
request_sound h text rest e = request_sound_at (read_parts text) text refl (h, rest) e

-- ---- responses

space_complete : (a : ⊤) (text rest : List ℕ) → Bytes (32 ∷ []) a text rest → read_space text ≡ Some (a, rest)
space_complete a text rest h = ap read_space h

space_sound : (a : ⊤) (text rest : List ℕ) → read_space text ≡ Some (a, rest) → Bytes (32 ∷ []) a text rest
space_sound a [] rest h = absurd cc
space_sound a (b ∷ bs) rest h = grind (arith, common_steps, eqb-true)

space_reader : IsReaderOf read_space (Bytes (32 ∷ []))
space_reader = record { sound = space_sound; complete = space_complete }

digit_complete : (d : ℕ) (text rest : List ℕ) → Digit d text rest → read_digit text ≡ Some (d, rest)
digit_complete d text rest x = ap read_digit x.1 ∙ rw x.0 refl

digit_sound : (d : ℕ) (text rest : List ℕ) → read_digit text ≡ Some (d, rest) → Digit d text rest
digit_sound d [] rest h = absurd cc
digit_sound d (b ∷ bs) rest h = grind (arith, common_steps)

digit_reader : IsReaderOf read_digit Digit
digit_reader = record { sound = digit_sound; complete = digit_complete }

code_reader : IsReaderOf (read_then read_digit (read_then read_digit read_digit)) Code
code_reader = then_reader read_digit _ Digit _ digit_reader (then_reader read_digit read_digit Digit Digit digit_reader digit_reader)

reason_bare : (end : LineEnd) (rest : List ℕ) → read_reason (print_end end ++ rest) ≡ Some ((None, end), rest)
reason_bare crlf rest = refl
reason_bare lf rest = refl

reason_complete : (r : Option (List ℕ) × LineEnd) (text rest : List ℕ) → Reason r text rest → read_reason text ≡ Some (r, rest)
reason_complete (None, end) text rest x = ap read_reason x.1 ∙ reason_bare end rest
reason_complete (Some phrase, end) text rest x =
    ap read_reason x.1 ∙ ap with_phrase (text_complete (phrase, end) (phrase ++ (print_end end ++ rest)) rest (x.0, refl))

phrase_sound : (o : Option ((List ℕ × LineEnd) × List ℕ)) (bs : List ℕ) → read_text is_value_byte bs ≡ o
    → (r : Option (List ℕ) × LineEnd) (rest : List ℕ) → with_phrase o ≡ Some (r, rest) → Reason r (32 ∷ bs) rest
phrase_sound None bs e r rest h = absurd cc
phrase_sound (Some y) bs e r rest h =
    let same : ((Some y.0.0, y.0.1), y.1) ≡ (r, rest) = cc in
    let found = text_sound y.0 bs y.1 e in
    let whole : Reason (Some y.0.0, y.0.1) (32 ∷ bs) y.1 = (found.0, ap (λ (x : List ℕ). 32 ∷ x) found.1) in
    subst (λ (z : (Option (List ℕ) × LineEnd) × List ℕ). Reason z.0 (32 ∷ bs) z.1) same whole

bare_sound : (o : Option (LineEnd × List ℕ)) (text : List ℕ) → read_newline text ≡ o
    → (r : Option (List ℕ) × LineEnd) (rest : List ℕ) → without_phrase o ≡ Some (r, rest) → Reason r text rest
bare_sound None text e r rest h = absurd cc
bare_sound (Some y) text e r rest h =
    let same : ((None, y.0), y.1) ≡ (r, rest) = cc in
    let whole : Reason (None, y.0) text y.1 = (All-nil (λ v. is_value_byte v ≡ true), newline_sound y.0 text y.1 e) in
    subst (λ (z : (Option (List ℕ) × LineEnd) × List ℕ). Reason z.0 text z.1) same whole

reason_sound_at : (b : ℕ) (bs : List ℕ) (v : Bool) → (b == 32) ≡ v → (r : Option (List ℕ) × LineEnd) (rest : List ℕ)
    → (if v then with_phrase (read_text is_value_byte bs) else without_phrase (read_newline (b ∷ bs))) ≡ Some (r, rest) → Reason r (b ∷ bs) rest
reason_sound_at b bs true e r rest h =
    let is : b ≡ 32 = eqb-true b 32 e in
    subst (λ (x : ℕ). Reason r (x ∷ bs) rest) (sym is) (phrase_sound (read_text is_value_byte bs) bs refl r rest h)
reason_sound_at b bs false e r rest h = bare_sound (read_newline (b ∷ bs)) (b ∷ bs) refl r rest h

reason_sound : (r : Option (List ℕ) × LineEnd) (text rest : List ℕ) → read_reason text ≡ Some (r, rest) → Reason r text rest
reason_sound r [] rest h = absurd cc
reason_sound r (b ∷ bs) rest h = reason_sound_at b bs (b == 32) refl r rest h

reason_reader : IsReaderOf read_reason Reason
reason_reader = record { sound = reason_sound; complete = reason_complete }

status_reader : IsReaderOf read_status_line (Then Version (Then (Bytes (32 ∷ [])) (Then Code Reason)))
status_reader =
    then_reader read_version _ Version _ version_reader
    (then_reader read_space _ (Bytes (32 ∷ [])) _ space_reader (then_reader (read_then read_digit (read_then read_digit read_digit)) read_reason Code Reason code_reader reason_reader))

response_parts_reader : IsReaderOf read_response_parts (Then (Then Version (Then (Bytes (32 ∷ [])) (Then Code Reason))) Section)
response_parts_reader = then_reader read_status_line read_section _ Section status_reader section_reader

-- the reader finds each response head of the grammar, behind the empty lines at its front
pub response_complete : (h : ResponseHead) (text rest : List ℕ) → ReadsResponse text h rest
    → (after : List ℕ) × (text ≡ print_blank h.blank ++ after) × Stops is_newline after × (read_response after ≡ Some (record h { blank = [] }, rest))
unfolding read_response
response_complete h text rest x =
    let p = response_pieces text h rest x in
    let t = p.0 in
    let inner = response_parts_reader.complete (t.0.1, t.1) p.2.1.0 rest (p.2.0, p.2.1.2, p.2.2) in
    let blank : t.0.0 ≡ h.blank = ap (λ (k : ResponseHead). k.blank) p.1 in
    let same : response_of (t.0.1, t.1) ≡ record h { blank = [] } = ap (λ (k : ResponseHead). record k { blank = [] }) p.1 in
    (p.2.1.0, p.2.1.1.0 ∙ ap (λ (e : List LineEnd). print_blank e ++ p.2.1.0) blank, p.2.1.1.1, ap (option_map (λ y. (response_of y.0, y.1))) inner ∙ ap (λ (k : ResponseHead). Some (k, rest)) same)

response_sound_at : (o : Option ((StatusLine × (List Field × LineEnd)) × List ℕ)) (text : List ℕ) → read_response_parts text ≡ o → (x : ResponseHead × List ℕ)
    → option_map (λ y. (response_of y.0, y.1)) o ≡ Some x → (ends : List LineEnd) → ReadsResponse (print_blank ends ++ text) (record x.0 { blank = ends }) x.1
response_sound_at None text e x h ends = absurd cc
response_sound_at (Some y) text e x h ends =
    let same : (response_of y.0, y.1) ≡ x = cc in
    let inner = response_parts_reader.sound y.0 text y.1 e in
    let begins : Stops is_newline text = subst (Stops is_newline) (sym inner.1.1.1) refl in
    let whole : ReadsResponse (print_blank ends ++ text) (record (response_of y.0) { blank = ends }) y.1 =
    response_from_pieces (print_blank ends ++ text) ((ends, y.0.0), y.0.1) y.1 (inner.0, (text, (refl, begins), inner.1), inner.2) in
    subst (λ (z : ResponseHead × List ℕ). ReadsResponse (print_blank ends ++ text) (record z.0 { blank = ends }) z.1) same whole

-- what the reader finds is a response head of the grammar, behind any empty lines
pub response_sound : (h : ResponseHead) (text rest : List ℕ) (ends : List LineEnd) → read_response text ≡ Some (h, rest)
    → ReadsResponse (print_blank ends ++ text) (record h { blank = ends }) rest
unfolding read_response
response_sound h text rest ends e = response_sound_at (read_response_parts text) text refl (h, rest) e ends
