-- Lines by their pieces: the canonical lines of statements.
use Rattle.std.proofs.Common.{◌≡◌, ℕ, List, [], ◌∷◌, ◌++◌, Bool, true, false, not, refl, sym, ◌∙◌, ap, arith, append_assoc, if◌then◌else◌}
use Rattle.std.specs.Prelude.{codes}
use Rattle.std.specs.List.{list_all}
use Rattle.std.specs.Char.{is_ascii_digit}
use Rattle.std.proofs.lemmas.Bool.Decides.{nat_tests}
use Rattle.std.proofs.lemmas.List.Folds.{list_all-append}
use Rattle.std.proofs.lemmas.Bool.{not-true}
use Rattle.list_laws.proofs.Tests.{and_first, and_second}
use Rattle.rdf_terms.specs.Canon.{is_marked, after_mark, canonical_form, canonical_term, canonical_line}
use Rattle.rdf_terms.specs.Iri.{is_iri_byte, has_scheme}
use Rattle.rdf_terms.specs.Datatype.{xsd_string}
use Rattle.rdf_terms.specs.declared.term.Term.{Term}
use Rattle.rdf_terms.specs.declared.term.Term.TheVariants.{Iri}
use Rattle.tpf_base.specs.Decimals.{decimal_text}
use Rattle.tpf_base.proofs.DecimalTexts.{decimal_text-digits}
use Rattle.template_fill.specs.Metadata.{plain, integer, statement}
use Rattle.template_fill.proofs.Passing.{list_all-wider}
use Rattle.own_controls.specs.Metadata.{graph_of}
use Rattle.own_controls.specs.Safe.{IsWeb}
use Rattle.own_controls.specs.Lines.{graph_end}

-- ---- pieces

behind_dot : (object page : List ℕ) → (object ++ 32 ∷ 60 ∷ ((page ++ codes "#metadata") ++ 62 ∷ [])) ++ 32 ∷ 46 ∷ 10 ∷ [] ≡ object ++ graph_end page
behind_dot object page =
    append_assoc object (32 ∷ 60 ∷ ((page ++ codes "#metadata") ++ 62 ∷ [])) (32 ∷ 46 ∷ 10 ∷ [])
    ∙ ap (λ (l : List ℕ). object ++ (32 ∷ 60 ∷ l)) (append_assoc (page ++ codes "#metadata") (62 ∷ []) (32 ∷ 46 ∷ 10 ∷ []) ∙ append_assoc page (codes "#metadata") (62 ∷ 32 ∷ 46 ∷ 10 ∷ []))

-- the line of a statement of the page's graph, its graph apart
pub line_is : (page : List ℕ) (s p o : Term) → canonical_line (statement (graph_of page) s p o) ≡ canonical_term s ++ (32 ∷ (canonical_term p ++ (32 ∷ (canonical_term o ++ graph_end page))))
line_is page s p o = ap (λ (l : List ℕ). canonical_term s ++ (32 ∷ (canonical_term p ++ (32 ∷ l)))) (behind_dot (canonical_term o) page)

-- terms in their places: subject, predicate and object around two texts
two_words : (front a after p before b end rest middle : List ℕ) → middle ≡ after ++ (32 ∷ (p ++ (32 ∷ before)))
    → (front ++ (a ++ after)) ++ (32 ∷ (p ++ (32 ∷ ((before ++ (b ++ end)) ++ rest)))) ≡ front ++ (a ++ (middle ++ (b ++ (end ++ rest))))
two_words front a after p before b end rest middle is =
    append_assoc front (a ++ after) _
    ∙ ap (λ (l : List ℕ). front ++ l) (append_assoc a after _)
    ∙ ap (λ (l : List ℕ). front ++ (a ++ (after ++ (32 ∷ (p ++ (32 ∷ l)))))) (append_assoc before (b ++ end) rest ∙ ap (λ (l : List ℕ). before ++ l) (append_assoc b end rest))
    ∙ ap (λ (l : List ℕ). front ++ (a ++ l)) (sym (append_assoc after (32 ∷ (p ++ (32 ∷ before))) (b ++ (end ++ rest)) ∙ ap (λ (l : List ℕ). after ++ (32 ∷ l)) (append_assoc p (32 ∷ before) (b ++ (end ++ rest)))))
    ∙ ap (λ (l : List ℕ). front ++ (a ++ (l ++ (b ++ (end ++ rest))))) (sym is)

-- around one text in the subject
subject_word : (front a after p o rest closing : List ℕ) → closing ≡ after ++ (32 ∷ (p ++ (32 ∷ o))) → (front ++ (a ++ after)) ++ (32 ∷ (p ++ (32 ∷ (o ++ rest)))) ≡ front ++ (a ++ (closing ++ rest))
subject_word front a after p o rest closing is =
    append_assoc front (a ++ after) _
    ∙ ap (λ (l : List ℕ). front ++ l) (append_assoc a after _)
    ∙ ap (λ (l : List ℕ). front ++ (a ++ l)) (sym (append_assoc after (32 ∷ (p ++ (32 ∷ o))) rest ∙ ap (λ (l : List ℕ). after ++ (32 ∷ l)) (append_assoc p (32 ∷ o) rest)))
    ∙ ap (λ (l : List ℕ). front ++ (a ++ (l ++ rest))) (sym is)

-- in the object
object_word : (s p before b end rest opening : List ℕ) → opening ≡ s ++ (32 ∷ (p ++ (32 ∷ before))) → s ++ (32 ∷ (p ++ (32 ∷ ((before ++ (b ++ end)) ++ rest)))) ≡ opening ++ (b ++ (end ++ rest))
object_word s p before b end rest opening is =
    ap (λ (l : List ℕ). s ++ (32 ∷ (p ++ (32 ∷ l)))) (append_assoc before (b ++ end) rest ∙ ap (λ (l : List ℕ). before ++ l) (append_assoc b end rest))
    ∙ sym (append_assoc s (32 ∷ (p ++ (32 ∷ before))) (b ++ (end ++ rest)) ∙ ap (λ (l : List ℕ). s ++ (32 ∷ l)) (append_assoc p (32 ∷ before) (b ++ (end ++ rest))))
    ∙ ap (λ (l : List ℕ). l ++ (b ++ (end ++ rest))) (sym is)

-- and none
no_word : (s p o rest text : List ℕ) → text ≡ s ++ (32 ∷ (p ++ (32 ∷ o))) → s ++ (32 ∷ (p ++ (32 ∷ (o ++ rest)))) ≡ text ++ rest
no_word s p o rest text is =
    sym (append_assoc s (32 ∷ (p ++ (32 ∷ o))) rest ∙ ap (λ (l : List ℕ). s ++ (32 ∷ l)) (append_assoc p (32 ∷ o) rest)) ∙ ap (λ (l : List ℕ). l ++ rest) (sym is)

-- ---- terms

-- a term whose canonical text has a text in it
pub record Holds (term : Term) (front text after : List ℕ) : Type 0 where
  pub is : canonical_term term ≡ front ++ (text ++ after)

pub iri_holds : (text : List ℕ) → Holds (Iri text) (codes "<") text (codes ">")
iri_holds text = record { is = refl }

pub section_holds : (text name after : List ℕ) → after ≡ name ++ codes ">" → Holds (Iri (text ++ name)) (codes "<") text after
section_holds text name after e = record { is = ap (λ (l : List ℕ). 60 ∷ l) (append_assoc text name (62 ∷ []) ∙ ap (λ (l : List ℕ). text ++ l) (sym e)) }

pub plain_holds : (text : List ℕ) → canonical_form text ≡ text → Holds (plain text) (codes "\"") text (codes "\"")
plain_holds text same = record { is = ap (λ (l : List ℕ). 34 ∷ (l ++ 34 ∷ [])) same }

-- ---- lines

pub two_line : (page front a after before b end middle : List ℕ) (s p o : Term) → Holds s front a after → Holds o before b end → middle ≡ after ++ (32 ∷ (canonical_term p ++ (32 ∷ before)))
    → front ++ (a ++ (middle ++ (b ++ (end ++ graph_end page)))) ≡ canonical_line (statement (graph_of page) s p o)
two_line page front a after before b end middle s p o subject object is =
    sym (line_is page s p o ∙ (λ i. subject.is i ++ (32 ∷ (canonical_term p ++ (32 ∷ (object.is i ++ graph_end page))))) ∙ two_words front a after (canonical_term p) before b end (graph_end page) middle is)

pub subject_line : (page front a after closing : List ℕ) (s p o : Term) → Holds s front a after → closing ≡ after ++ (32 ∷ (canonical_term p ++ (32 ∷ canonical_term o)))
    → front ++ (a ++ (closing ++ graph_end page)) ≡ canonical_line (statement (graph_of page) s p o)
subject_line page front a after closing s p o subject is =
    sym (line_is page s p o ∙ (λ i. subject.is i ++ (32 ∷ (canonical_term p ++ (32 ∷ (canonical_term o ++ graph_end page))))) ∙ subject_word front a after (canonical_term p) (canonical_term o) (graph_end page) closing is)

pub object_line : (page before b end opening : List ℕ) (s p o : Term) → Holds o before b end → opening ≡ canonical_term s ++ (32 ∷ (canonical_term p ++ (32 ∷ before)))
    → opening ++ (b ++ (end ++ graph_end page)) ≡ canonical_line (statement (graph_of page) s p o)
object_line page before b end opening s p o object is =
    sym (line_is page s p o ∙ (λ i. canonical_term s ++ (32 ∷ (canonical_term p ++ (32 ∷ (object.is i ++ graph_end page))))) ∙ object_word (canonical_term s) (canonical_term p) before b end (graph_end page) opening is)

pub fixed_line : (page text : List ℕ) (s p o : Term) → text ≡ canonical_term s ++ (32 ∷ (canonical_term p ++ (32 ∷ canonical_term o))) → text ++ graph_end page ≡ canonical_line (statement (graph_of page) s p o)
fixed_line page text s p o is = sym (line_is page s p o ∙ no_word (canonical_term s) (canonical_term p) (canonical_term o) (graph_end page) text is)

-- ---- forms without a backslash

byte_same : (t : Bool) (b : ℕ) (more : List ℕ) → t ≡ false → (if t then 92 ∷ after_mark b ∷ [] else b ∷ []) ++ more ≡ b ∷ more
byte_same true b more e = absurd (cc)
byte_same false b more e = refl

plain_form : (form : List ℕ) → list_all (λ b. not (is_marked b)) form ≡ true → canonical_form form ≡ form
plain_form [] h = refl
plain_form (b ∷ form) h =
    byte_same (is_marked b) b (canonical_form form) (not-true (is_marked b) (and_first (not (is_marked b)) _ h))
    ∙ ap (λ (l : List ℕ). b ∷ l) (plain_form form (and_second (not (is_marked b)) _ h))

digit_plain : (b : ℕ) → is_ascii_digit b ≡ true → not (is_marked b) ≡ true
digit_plain b h = grind (arith, nat_tests)

iri_plain : (b : ℕ) → is_iri_byte b ≡ true → not (is_marked b) ≡ true
iri_plain b h = grind (arith, nat_tests)

pub digits_plain : (n : ℕ) → canonical_form (decimal_text n) ≡ decimal_text n
digits_plain n = plain_form (decimal_text n) (list_all-wider is_ascii_digit (λ b. not (is_marked b)) digit_plain (decimal_text n) (decimal_text-digits n))

template_plain : (base : List ℕ) → IsWeb base → canonical_form (base ++ codes "{?subject,predicate,object}") ≡ base ++ codes "{?subject,predicate,object}"
template_plain base web =
    let bytes = list_all-wider is_iri_byte (λ b. not (is_marked b)) iri_plain base (and_first (list_all is_iri_byte base) (has_scheme base) web.iri) in
    plain_form (base ++ codes "{?subject,predicate,object}") (list_all-append (λ b. not (is_marked b)) base (codes "{?subject,predicate,object}") ∙ rw bytes refl)

-- a number as xsd:integer
pub integer_holds : (n : ℕ) → Holds (integer n) (codes "\"") (decimal_text n) (codes "\"^^<http://www.w3.org/2001/XMLSchema#integer>")
unfolding integer xsd_string
integer_holds n = record { is = ap (λ (l : List ℕ). 34 ∷ (l ++ codes "\"^^<http://www.w3.org/2001/XMLSchema#integer>")) (digits_plain n) }

pub number_holds : (n : ℕ) → Holds (plain (decimal_text n)) (codes "\"") (decimal_text n) (codes "\"")
number_holds n = plain_holds (decimal_text n) (digits_plain n)

pub template_canonical : (base template : List ℕ) → IsWeb base → template ≡ base ++ codes "{?subject,predicate,object}" → canonical_form template ≡ template
template_canonical base template web is = ap canonical_form is ∙ template_plain base web ∙ sym is
