-- The parts of a line, and what each byte of its source is written as.
use Rattle.std.proofs.Common.{◌≡◌, ℕ, zero, suc, ◌+◌, ◌-◌, ◌*◌, ◌<◌, ◌≤◌, min, if◌then◌else◌, Bool, true, false, List, [], ◌∷◌, ◌++◌, map, length, take, drop, refl, ap, ap₂, sym, subst, ◌∙◌, arith, append_assoc, append-nil, length-append, length-take, length-drop}
use Rattle.std.specs.Prelude.{nat_lt}
use Rattle.std.specs.List.{AllByRecursion, concat}
use Rattle.std.proofs.lemmas.Bool.{ltb-false, ltb-true}
use Rattle.std.proofs.lemmas.List.{drop-drop, map-append, length-map, take-append-drop}
use Rattle.list_laws.proofs.Each.{all_append, all_back, all_front}
use Rattle.rdf_terms.specs.declared.term.Term.{Term}
use Rattle.rdf_terms.specs.declared.term.Term.TheVariants.{Iri, Blank, Literal}
use Rattle.rdf_terms.specs.declared.term.Triple.{Triple}
use Rattle.rdf_terms.specs.Canon.{after_mark, canonical_byte, canonical_form, canonical_kind, canonical_term, is_marked}
use Rattle.hydra_controls.specs.declared.cut.Cut.{Cut}
use Rattle.hydra_controls.specs.Cuts.{Cuts, cut_behind, cut_of}
use Rattle.hydra_controls.proofs.CutLaws.{behind_all, behind_append, between, cut_append, nothing_left}
use Rattle.page_responses.specs.declared.limits.TheConstants.{LONGEST_PART, PART}
use Rattle.page_responses.specs.Given.{IsGiven}
use Rattle.page_responses.specs.Lines.{triple_line}
use Rattle.page_responses.specs.Parts.{CutsMarks, ended_marks, form_marks, plain_marks, term_marks, triple_marks}
use Rattle.page_responses.proofs.LineLengths.{triple_line_length}

-- ---- lists of lists

pub concat_more : (xs ys : List (List ℕ)) → concat (xs ++ ys) ≡ concat xs ++ concat ys
concat_more [] ys = refl
concat_more (x ∷ xs) ys = ap (λ (l : List ℕ). x ++ l) (concat_more xs ys) ∙ sym (append_assoc x (concat xs) (concat ys))

-- each is of one or two bytes
abbrev pub AreMarks : List (List ℕ) → Type 0
AreMarks marks = AllByRecursion (λ (m : List ℕ). (1 ≤ length m) × (length m ≤ 2)) marks

pub marks_low : (marks : List (List ℕ)) → AreMarks marks → length marks ≤ length (concat marks)
marks_low [] all = omega arith
marks_low (m ∷ marks) all = omega (arith, all.0.0, marks_low marks all.1, length-append m (concat marks))

pub marks_high : (marks : List (List ℕ)) → AreMarks marks → length (concat marks) ≤ 2 * length marks
marks_high [] all = omega arith
marks_high (m ∷ marks) all = omega (arith, all.0.1, marks_high marks all.1, length-append m (concat marks))

pub are_dropped : (n : ℕ) (marks : List (List ℕ)) → AreMarks marks → AreMarks (drop n marks)
are_dropped n marks all = all_back (λ (m : List ℕ). (1 ≤ length m) × (length m ≤ 2)) (take n marks) (drop n marks) (subst AreMarks (sym (take-append-drop n marks)) all)

are_taken : (n : ℕ) (marks : List (List ℕ)) → AreMarks marks → AreMarks (take n marks)
are_taken n marks all = all_front (λ (m : List ℕ). (1 ≤ length m) × (length m ≤ 2)) (take n marks) (drop n marks) (subst AreMarks (sym (take-append-drop n marks)) all)

-- ---- the marks of a triple

one_mark : (b : ℕ) → (1 ≤ length (b ∷ [])) × (length (b ∷ []) ≤ 2)
one_mark b = (omega arith, omega arith)

pub plain_are : (text : List ℕ) → AreMarks (plain_marks text)
plain_are [] = tt
plain_are (b ∷ text) = (one_mark b, plain_are text)

mark_if : (b : ℕ) (marked : Bool) → (1 ≤ length (if marked then 92 ∷ after_mark b ∷ [] else b ∷ [])) × (length (if marked then 92 ∷ after_mark b ∷ [] else b ∷ []) ≤ 2)
mark_if b true = (omega arith, omega arith)
mark_if b false = (omega arith, omega arith)

form_are : (form : List ℕ) → AreMarks (form_marks form)
form_are [] = tt
form_are (b ∷ form) = (mark_if b (is_marked b), form_are form)

are_both : (xs ys : List (List ℕ)) → AreMarks xs → AreMarks ys → AreMarks (xs ++ ys)
are_both xs ys = all_append (λ (m : List ℕ). (1 ≤ length m) × (length m ≤ 2)) xs ys

term_are : (term : Term) → AreMarks (term_marks term)
term_are (Iri text) = are_both (plain_marks (60 ∷ [])) (plain_marks text ++ plain_marks (62 ∷ [])) (plain_are (60 ∷ [])) (are_both (plain_marks text) (plain_marks (62 ∷ [])) (plain_are text) (plain_are (62 ∷ [])))
term_are (Blank label) = are_both (plain_marks (95 ∷ 58 ∷ [])) (plain_marks label) (plain_are (95 ∷ 58 ∷ [])) (plain_are label)
term_are (Literal form kind) =
    are_both (plain_marks (34 ∷ [])) (form_marks form ++ (plain_marks (34 ∷ []) ++ plain_marks (canonical_kind kind))) (plain_are (34 ∷ []))
    (are_both (form_marks form) (plain_marks (34 ∷ []) ++ plain_marks (canonical_kind kind)) (form_are form)
    (are_both (plain_marks (34 ∷ [])) (plain_marks (canonical_kind kind)) (plain_are (34 ∷ [])) (plain_are (canonical_kind kind))))

ended_are : (term : Term) (end : List ℕ) → AreMarks (ended_marks term end)
ended_are term end = are_both (term_marks term) (plain_marks end) (term_are term) (plain_are end)

pub triple_are : (t : Triple) → AreMarks (triple_marks t)
unfolding triple_marks
triple_are t =
    are_both (ended_marks t.subject (32 ∷ [])) (ended_marks t.predicate (32 ∷ []) ++ ended_marks t.object (32 ∷ 46 ∷ 10 ∷ [])) (ended_are t.subject (32 ∷ []))
    (are_both (ended_marks t.predicate (32 ∷ [])) (ended_marks t.object (32 ∷ 46 ∷ 10 ∷ [])) (ended_are t.predicate (32 ∷ [])) (ended_are t.object (32 ∷ 46 ∷ 10 ∷ [])))

-- ---- they are its line

plain_text : (text : List ℕ) → concat (plain_marks text) ≡ text
plain_text [] = refl
plain_text (b ∷ text) = ap (λ (l : List ℕ). b ∷ l) (plain_text text)

form_text : (form : List ℕ) → concat (form_marks form) ≡ canonical_form form
form_text [] = refl
form_text (b ∷ form) = ap (λ (l : List ℕ). canonical_byte b ++ l) (form_text form)

plain_before : (text : List ℕ) (more : List (List ℕ)) → concat (plain_marks text ++ more) ≡ text ++ concat more
plain_before text more = concat_more (plain_marks text) more ∙ ap (λ (l : List ℕ). l ++ concat more) (plain_text text)

term_text : (term : Term) → concat (term_marks term) ≡ canonical_term term
term_text (Iri text) = ap (λ (l : List ℕ). 60 ∷ l) (plain_before text (plain_marks (62 ∷ [])))
term_text (Blank label) = ap (λ (l : List ℕ). 95 ∷ 58 ∷ l) (plain_text label)
term_text (Literal form kind) =
    ap (λ (l : List ℕ). 34 ∷ l)
    (concat_more (form_marks form) (plain_marks (34 ∷ []) ++ plain_marks (canonical_kind kind))
    ∙ ap₂ (λ (f k : List ℕ). f ++ 34 ∷ k) (form_text form) (plain_text (canonical_kind kind)))

ended_text : (term : Term) (end : List ℕ) → concat (ended_marks term end) ≡ canonical_term term ++ end
ended_text term end = concat_more (term_marks term) (plain_marks end) ∙ ap₂ (λ (t e : List ℕ). t ++ e) (term_text term) (plain_text end)

joined : (s p o : List ℕ) → (s ++ 32 ∷ []) ++ ((p ++ 32 ∷ []) ++ (o ++ 32 ∷ 46 ∷ 10 ∷ [])) ≡ s ++ 32 ∷ (p ++ 32 ∷ (o ++ [] ++ 32 ∷ 46 ∷ 10 ∷ []))
joined s p o =
    append_assoc s (32 ∷ []) ((p ++ 32 ∷ []) ++ (o ++ 32 ∷ 46 ∷ 10 ∷ []))
    ∙ ap (λ (l : List ℕ). s ++ 32 ∷ l) (append_assoc p (32 ∷ []) (o ++ 32 ∷ 46 ∷ 10 ∷ [])
    ∙ ap (λ (l : List ℕ). p ++ 32 ∷ (l ++ 32 ∷ 46 ∷ 10 ∷ [])) (sym (append-nil o)))

pub triple_text : (t : Triple) → concat (triple_marks t) ≡ triple_line t
unfolding triple_marks
triple_text t =
    concat_more (ended_marks t.subject (32 ∷ [])) (ended_marks t.predicate (32 ∷ []) ++ ended_marks t.object (32 ∷ 46 ∷ 10 ∷ []))
    ∙ ap₂ (λ (a b : List ℕ). a ++ b) (ended_text t.subject (32 ∷ []))
    (concat_more (ended_marks t.predicate (32 ∷ [])) (ended_marks t.object (32 ∷ 46 ∷ 10 ∷ []))
    ∙ ap₂ (λ (a b : List ℕ). a ++ b) (ended_text t.predicate (32 ∷ [])) (ended_text t.object (32 ∷ 46 ∷ 10 ∷ [])))
    ∙ joined (canonical_term t.subject) (canonical_term t.predicate) (canonical_term t.object)

pub line_high : (t : Triple) → length (triple_marks t) ≤ length (triple_line t)
line_high t = omega (arith, marks_low (triple_marks t) (triple_are t), ap (λ (l : List ℕ). length l) (triple_text t))

-- there are some
pub triple_some : (t : Triple) → 0 < length (triple_marks t)
triple_some t =
    omega (arith, marks_high (triple_marks t) (triple_are t), ap (λ (l : List ℕ). length l) (triple_text t), triple_line_length t)

-- ---- what is cut of them

dropped_map : {A B : Type 0} (f : A → B) (m : ℕ) (xs : List A) → drop m (map f xs) ≡ map f (drop m xs)
dropped_map f zero xs = refl
dropped_map f (suc m) [] = refl
dropped_map f (suc m) (x ∷ xs) = dropped_map f m xs

taken_map : {A B : Type 0} (f : A → B) (n : ℕ) (xs : List A) → take n (map f xs) ≡ map f (take n xs)
taken_map f zero xs = refl
taken_map f (suc n) [] = refl
taken_map {B = B} f (suc n) (x ∷ xs) = ap (λ (l : List B). f x ∷ l) (taken_map f n xs)

cut_map : {A B : Type 0} (f : A → B) (n m : ℕ) (xs : List A) → take n (drop m (map f xs)) ≡ map f (take n (drop m xs))
cut_map {B = B} f n m xs = ap (λ (l : List B). take n l) (dropped_map f m xs) ∙ taken_map f n (drop m xs)

-- of a text that is written as it is
pub plain_cuts : (a b : Cut) (text old new : List ℕ) → Cuts a b text old new → CutsMarks a b (plain_marks text) old new
plain_cuts a b text old new h = record {
  behind = h.behind ∙ ap (cut_behind a) (sym (length-map text (λ (x : ℕ). x ∷ [])));
  appended = h.appended ∙ ap (λ (l : List ℕ). old ++ l) (sym (plain_text (cut_of a text)) ∙ ap concat (sym (cut_map (λ (x : ℕ). x ∷ []) a.room a.skip text)));
}

-- of a literal's form
pub form_cuts : (a b : Cut) (form old new : List ℕ) (from to : ℕ) → b ≡ cut_behind a (length form) → from ≡ min a.skip (length form) → to - from ≡ min a.room (length form - a.skip)
    → new ≡ old ++ concat (form_marks (take (to - from) (drop from form))) → CutsMarks a b (form_marks form) old new
form_cuts a b form old new from to behind begins ends appended = record {
  behind = behind ∙ ap (cut_behind a) (sym (length-map form canonical_byte));
  appended =
      appended ∙ ap (λ (l : List ℕ). old ++ concat (form_marks l)) (between a form from to begins ends)
      ∙ ap (λ (l : List (List ℕ)). old ++ concat l) (sym (cut_map canonical_byte a.room a.skip form));
}

-- one text and then another
pub cuts_then : (a b d : Cut) (first second : List (List ℕ)) (old mid new : List ℕ) → CutsMarks a b first old mid → CutsMarks b d second mid new → CutsMarks a d (first ++ second) old new
cuts_then a b d first second old mid new h k = record {
  behind =
      k.behind ∙ ap (λ (x : Cut). cut_behind x (length second)) h.behind
      ∙ sym (ap (cut_behind a) (length-append first second) ∙ behind_append a (length first) (length second));
  appended =
      k.appended ∙ ap (λ (l : List ℕ). l ++ concat (cut_of b second)) h.appended
      ∙ append_assoc old (concat (cut_of a first)) (concat (cut_of b second))
      ∙ ap (λ (x : Cut). old ++ (concat (cut_of a first) ++ concat (cut_of x second))) h.behind
      ∙ ap (λ (l : List ℕ). old ++ l) (sym (concat_more (cut_of a first) (cut_of (cut_behind a (length first)) second)))
      ∙ ap (λ (l : List (List ℕ)). old ++ concat l) (sym (cut_append a first second));
}

pub cuts_same : (a b : Cut) (marks other : List (List ℕ)) (old new : List ℕ) → marks ≡ other → CutsMarks a b marks old new → CutsMarks a b other old new
cuts_same a b marks other old new same h = subst (λ (m : List (List ℕ)). CutsMarks a b m old new) same h

-- nothing
pub cuts_nothing : (a : Cut) (old : List ℕ) → CutsMarks a a [] old old
cuts_nothing a old = record {
  behind = (let e : a.skip ≡ a.skip - 0 = omega arith in λ i. record a { skip = e i }) ∙ behind_all a 0 (omega arith);
  appended = sym (ap (λ (l : List (List ℕ)). old ++ concat l) (nothing_left a.room a.skip) ∙ append-nil old);
}

-- a datatype in its brackets
pub datatype_cuts : (a b : Cut) (text old new : List ℕ) → CutsMarks a b ((plain_marks (94 ∷ 94 ∷ 60 ∷ []) ++ plain_marks text) ++ plain_marks (62 ∷ [])) old new
    → CutsMarks a b (plain_marks (94 ∷ 94 ∷ 60 ∷ (text ++ 62 ∷ []))) old new
datatype_cuts a b text old new h =
    cuts_same a b ((plain_marks (94 ∷ 94 ∷ 60 ∷ []) ++ plain_marks text) ++ plain_marks (62 ∷ [])) (plain_marks (94 ∷ 94 ∷ 60 ∷ (text ++ 62 ∷ []))) old new
    (ap (λ (l : List (List ℕ)). (94 ∷ []) ∷ (94 ∷ []) ∷ (60 ∷ []) ∷ l) (sym (map-append (λ (x : ℕ). x ∷ []) text (62 ∷ [])))) h

-- a tag behind its mark
pub tag_cuts : (a b : Cut) (tag old new : List ℕ) → CutsMarks a b (plain_marks (64 ∷ []) ++ plain_marks tag) old new → CutsMarks a b (plain_marks (64 ∷ tag)) old new
tag_cuts a b tag old new h = h

-- of a whole text so many bytes of the source behind the first ones
pub first_cut : (from : ℕ) (a b : Cut) (marks : List (List ℕ)) (old new : List ℕ) → a ≡ record { skip = from; room = PART; more = false } → CutsMarks a b marks old new
    → (b.more ≡ nat_lt PART (length marks - from)) × (new ≡ old ++ concat (take PART (drop from marks)))
first_cut from a b marks old new is h =
    let own = subst (λ (x : Cut). CutsMarks x b marks old new) is h in
    (ap (λ (x : Cut). x.more) own.behind, own.appended)

-- ---- a part

all_taken : {A : Type 0} (n : ℕ) (xs : List A) → length xs ≤ n → take n xs ≡ xs
all_taken zero [] h = refl
all_taken zero (x ∷ xs) h = absurd (omega arith)
all_taken (suc n) [] h = refl
all_taken {A} (suc n) (x ∷ xs) h = ap (λ (l : List A). x ∷ l) (all_taken n xs (omega arith))

taken_concat : (n : ℕ) (marks : List (List ℕ)) → concat marks ≡ concat (take n marks) ++ concat (drop n marks)
taken_concat n marks = ap concat (sym (take-append-drop n marks)) ∙ concat_more (take n marks) (drop n marks)

-- the size of a part of a source
part_size : (from : ℕ) (marks : List (List ℕ)) → AreMarks marks → from < length marks → (0 < length (concat (take PART (drop from marks)))) × (length (concat (take PART (drop from marks))) ≤ LONGEST_PART)
part_size from marks are some =
    let part = take PART (drop from marks) in
    let all = are_taken PART (drop from marks) (are_dropped from marks are) in
    let size = length-take PART (drop from marks) in
    let left = length-drop from marks in
    (omega (arith, some, size, left, marks_low part all), omega (arith, size, left, marks_high part all))

-- more is left
pub marks_go_on : (from : ℕ) (marks : List (List ℕ)) (old new : List ℕ) → AreMarks marks → from < length marks → new ≡ old ++ concat (take PART (drop from marks))
    → IsGiven (concat (drop from marks)) (concat (drop (from + PART) marks)) old new
marks_go_on from marks old new are some appended = record {
  part = concat (take PART (drop from marks));
  text = taken_concat PART (drop from marks) ∙ ap (λ (l : List (List ℕ)). concat (take PART (drop from marks)) ++ concat l) (drop-drop PART from marks);
  appended = appended;
  some = (part_size from marks are some).0;
  few = (part_size from marks are some).1;
}

-- nothing is left
pub marks_end : (from : ℕ) (marks : List (List ℕ)) (old new : List ℕ) → AreMarks marks → from < length marks → nat_lt PART (length marks - from) ≡ false → new ≡ old ++ concat (take PART (drop from marks))
    → IsGiven (concat (drop from marks)) [] old new
marks_end from marks old new are some last appended = record {
  part = concat (take PART (drop from marks));
  text =
      ap concat (sym (all_taken PART (drop from marks) (omega (arith, ltb-false PART (length marks - from) last, length-drop from marks))))
      ∙ sym (append-nil (concat (take PART (drop from marks))));
  appended = appended;
  some = (part_size from marks are some).0;
  few = (part_size from marks are some).1;
}

-- a whole short line
pub line_given : (t : Triple) (from : ℕ) (old new : List ℕ) → from ≡ 0 → length (triple_line t) ≤ PART → new ≡ old ++ triple_line t → IsGiven (concat (drop from (triple_marks t))) [] old new
line_given t from old new none short appended =
    subst (λ (n : ℕ). IsGiven (concat (drop n (triple_marks t))) [] old new) (sym none) (record {
      part = triple_line t;
      text = triple_text t ∙ sym (append-nil (triple_line t));
      appended = appended;
      some = omega (arith, triple_line_length t);
      few = omega (arith, short);
    })

-- a part of a line of the metadata: more is left
pub line_goes_on : (from : ℕ) (line old new : List ℕ) → from < length line → nat_lt PART (length line - from) ≡ true → new ≡ old ++ take PART (drop from line) → IsGiven (drop from line) (drop (from + PART) line) old new
line_goes_on from line old new some more appended = record {
  part = take PART (drop from line);
  text = sym (take-append-drop PART (drop from line)) ∙ ap (λ (l : List ℕ). take PART (drop from line) ++ l) (drop-drop PART from line);
  appended = appended;
  some = omega (arith, some, length-take PART (drop from line), length-drop from line);
  few = omega (arith, length-take PART (drop from line));
}

-- nothing is left
pub line_ends : (from : ℕ) (line old new : List ℕ) → from < length line → nat_lt PART (length line - from) ≡ false → new ≡ old ++ take PART (drop from line) → IsGiven (drop from line) [] old new
line_ends from line old new some last appended = record {
  part = take PART (drop from line);
  text =
      sym (all_taken PART (drop from line) (omega (arith, ltb-false PART (length line - from) last, length-drop from line)))
      ∙ sym (append-nil (take PART (drop from line)));
  appended = appended;
  some = omega (arith, some, length-take PART (drop from line), length-drop from line);
  few = omega (arith, length-take PART (drop from line));
}

-- the next place is within the line
pub within_on : (from n : ℕ) → nat_lt PART (n - from) ≡ true → from + PART < n
within_on from n more = omega (arith, ltb-true PART (n - from) more)

-- the three terms of a line
pub triple_cuts : (from : ℕ) (a b d e : Cut) (t : Triple) (s p o : Term) (old first second new : List ℕ) → a ≡ record { skip = from; room = PART; more = false } → s ≡ t.subject → p ≡ t.predicate → o ≡ t.object
    → CutsMarks a b (ended_marks s (32 ∷ [])) old first → CutsMarks b d (ended_marks p (32 ∷ [])) first second → CutsMarks d e (ended_marks o (32 ∷ 46 ∷ 10 ∷ [])) second new
    → (e.more ≡ nat_lt PART (length (triple_marks t) - from)) × (new ≡ old ++ concat (take PART (drop from (triple_marks t))))
unfolding triple_marks
triple_cuts from a b d e t s p o old first second new is of_s of_p of_o x y z =
    first_cut from a e (ended_marks t.subject (32 ∷ []) ++ (ended_marks t.predicate (32 ∷ []) ++ ended_marks t.object (32 ∷ 46 ∷ 10 ∷ []))) old new is
    (cuts_then a b e (ended_marks t.subject (32 ∷ [])) (ended_marks t.predicate (32 ∷ []) ++ ended_marks t.object (32 ∷ 46 ∷ 10 ∷ [])) old first new
    (subst (λ (x : Term). CutsMarks a b (ended_marks x (32 ∷ [])) old first) of_s x)
    (cuts_then b d e (ended_marks t.predicate (32 ∷ [])) (ended_marks t.object (32 ∷ 46 ∷ 10 ∷ [])) first second new
    (subst (λ (x : Term). CutsMarks b d (ended_marks x (32 ∷ [])) first second) of_p y)
    (subst (λ (x : Term). CutsMarks d e (ended_marks x (32 ∷ 46 ∷ 10 ∷ [])) second new) of_o z)))
