-- The lines of the metadata by the texts that they are written with.
use Rattle.std.proofs.Common.{◌≡◌, ℕ, List, [], ◌∷◌, ◌++◌, true, refl, sym, ap, ap₂, ◌∙◌, append_assoc, append-nil}
use Rattle.std.specs.Prelude.{codes, slice_index_or}
use Rattle.std.specs.List.{list_all}
use Rattle.list_laws.proofs.Each.{all_joined}
use Rattle.rdf_terms.specs.Canon.{canonical_form, canonical_line, canonical_term}
use Rattle.rdf_terms.specs.Datatype.{xsd_string}
use Rattle.rdf_terms.specs.Iri.{is_iri}
use Rattle.rdf_terms.specs.declared.term.Quad.{Quad}
use Rattle.rdf_terms.specs.declared.term.Term.{Term}
use Rattle.rdf_terms.specs.declared.term.Term.TheVariants.{Blank, Iri}
use Rattle.tpf_base.specs.Decimals.{decimal_text}
use Rattle.template_fill.specs.Metadata.{hydra, integer, plain, statement}
use Rattle.hydra_controls.specs.LineTexts.{is_plain_byte}
use Rattle.hydra_controls.proofs.Iris.{decimal-plain, iri-plain}
use Rattle.hydra_controls.proofs.TermLaws.{form_is}

-- the end of each line: what stands behind the text of the graph
abbrev pub line_end : List ℕ
line_end = 62 ∷ 32 ∷ 46 ∷ 10 ∷ []

-- what stands in front of the text of the graph, where the three terms are written so
abbrev pub front_of : List ℕ → List ℕ → List ℕ → List ℕ
front_of s p o = s ++ 32 ∷ (p ++ 32 ∷ (o ++ 32 ∷ 60 ∷ []))

line_stands : (s p o graph : List ℕ) → s ++ 32 ∷ (p ++ 32 ∷ (o ++ (32 ∷ 60 ∷ (graph ++ 62 ∷ [])) ++ 32 ∷ 46 ∷ 10 ∷ [])) ≡ front_of s p o ++ (graph ++ line_end)
line_stands s p o graph = simp append_assoc

statement_stands : (graph : List ℕ) (s p o : Term) → canonical_line (statement graph s p o) ≡ front_of (canonical_term s) (canonical_term p) (canonical_term o) ++ (graph ++ line_end)
statement_stands graph s p o = line_stands (canonical_term s) (canonical_term p) (canonical_term o) graph

-- ---- a statement

-- all of whose front is one text
pub fixed_line : (graph : List ℕ) (s p o : Term) (text : List ℕ) → text ≡ front_of (canonical_term s) (canonical_term p) (canonical_term o) ++ (graph ++ line_end) → canonical_line (statement graph s p o) ≡ text
fixed_line graph s p o text is = statement_stands graph s p o ∙ sym is

opened : (opening subject object rest : List ℕ) → opening ++ (subject ++ (object ++ rest)) ≡ (opening ++ (subject ++ object)) ++ rest
opened opening subject object rest = simp append_assoc

-- whose front is an opening and two texts
pub opened_line : (graph : List ℕ) (s p o : Term) (opening subject object text : List ℕ) → front_of (canonical_term s) (canonical_term p) (canonical_term o) ≡ opening ++ (subject ++ object)
    → text ≡ opening ++ (subject ++ (object ++ (graph ++ line_end))) → canonical_line (statement graph s p o) ≡ text
opened_line graph s p o opening subject object text front is =
    fixed_line graph s p o text (is ∙ opened opening subject object (graph ++ line_end) ∙ ap (λ (l : List ℕ). l ++ (graph ++ line_end)) (sym front))

iri_front : (a p one b three : List ℕ) → front_of (60 ∷ (a ++ 62 ∷ [])) p (one ++ (b ++ three)) ≡ (60 ∷ []) ++ ((a ++ (62 ∷ 32 ∷ (p ++ 32 ∷ one))) ++ (b ++ (three ++ 32 ∷ 60 ∷ [])))
iri_front a p one b three = simp append_assoc

-- whose subject is an IRI and whose object is written in three parts
pub iri_line : (graph a one b three : List ℕ) (p o : Term) (subject object text : List ℕ) → canonical_term o ≡ one ++ (b ++ three)
    → subject ≡ a ++ (62 ∷ 32 ∷ (canonical_term p ++ 32 ∷ one)) → object ≡ b ++ (three ++ 32 ∷ 60 ∷ []) → text ≡ (60 ∷ []) ++ (subject ++ (object ++ (graph ++ line_end)))
    → canonical_line (statement graph (Iri a) p o) ≡ text
iri_line graph a one b three p o subject object text written of_subject of_object is =
    opened_line graph (Iri a) p o (60 ∷ []) subject object text
    (ap (λ (l : List ℕ). front_of (60 ∷ (a ++ 62 ∷ [])) (canonical_term p) l) written
    ∙ iri_front a (canonical_term p) one b three
    ∙ ap₂ (λ (l m : List ℕ). (60 ∷ []) ++ (l ++ m)) (sym of_subject) (sym of_object))
    is

-- the text of a subject that has a name behind an address
pub behind_name : (a name : List ℕ) (p : Term) (one text : List ℕ) → text ≡ a ++ (name ++ (62 ∷ 32 ∷ (canonical_term p ++ 32 ∷ one))) → text ≡ (a ++ name) ++ (62 ∷ 32 ∷ (canonical_term p ++ 32 ∷ one))
behind_name a name p one text is = is ∙ sym (append_assoc a name (62 ∷ 32 ∷ (canonical_term p ++ 32 ∷ one)))

-- ---- objects

pub iri_stands : (b : List ℕ) → canonical_term (Iri b) ≡ (60 ∷ []) ++ (b ++ 62 ∷ [])
iri_stands b = refl

pub count_stands : (n : ℕ) → canonical_term (integer n) ≡ (34 ∷ []) ++ (decimal_text n ++ codes "\"^^<http://www.w3.org/2001/XMLSchema#integer>")
unfolding integer xsd_string
count_stands n = ap (λ (l : List ℕ). 34 ∷ (l ++ codes "\"^^<http://www.w3.org/2001/XMLSchema#integer>")) (form_is (decimal_text n) (decimal-plain n))

pub digits_stand : (n : ℕ) → canonical_term (plain (decimal_text n)) ≡ (34 ∷ []) ++ (decimal_text n ++ 34 ∷ [])
digits_stand n = ap (λ (l : List ℕ). 34 ∷ (l ++ 34 ∷ [])) (form_is (decimal_text n) (decimal-plain n))

-- ---- the line of the template

quoted : (opening base more : List ℕ) → opening ++ (((base ++ more) ++ 34 ∷ []) ++ 32 ∷ 60 ∷ []) ≡ opening ++ ((base ++ (more ++ 34 ∷ 32 ∷ 60 ∷ [])) ++ [])
quoted opening base more = simp (append_assoc, append-nil)

template_form : (base more : List ℕ) → is_iri base ≡ true → list_all is_plain_byte more ≡ true → canonical_form (base ++ more) ≡ base ++ more
template_form base more own all = form_is (base ++ more) (all_joined is_plain_byte base more (iri-plain base own) all)

pub template_line : (graph base subject object text : List ℕ) → is_iri base ≡ true → subject ≡ base ++ codes "{?subject,predicate,object}\" <" → object ≡ []
    → text ≡ codes "_:form <http://www.w3.org/ns/hydra/core#template> \"" ++ (subject ++ (object ++ (graph ++ line_end)))
    → canonical_line (statement graph (Blank (codes "form")) (hydra (codes "template")) (plain (base ++ codes "{?subject,predicate,object}"))) ≡ text
unfolding hydra
template_line graph base subject object text own of_subject of_object is =
    let opening = codes "_:form <http://www.w3.org/ns/hydra/core#template> \"" in
    opened_line graph (Blank (codes "form")) (hydra (codes "template")) (plain (base ++ codes "{?subject,predicate,object}")) opening subject object text
    (ap (λ (l : List ℕ). opening ++ ((l ++ 34 ∷ []) ++ 32 ∷ 60 ∷ [])) (template_form base (codes "{?subject,predicate,object}") own refl)
    ∙ quoted opening base (codes "{?subject,predicate,object}")
    ∙ ap₂ (λ (l m : List ℕ). opening ++ (l ++ m)) (sym of_subject) (sym of_object))
    is

-- ---- a place of a list

pub line_at : (quads : List Quad) (i n : ℕ) (d q : Quad) (text : List ℕ) → i ≡ n → slice_index_or quads n d ≡ q → canonical_line q ≡ text → canonical_line (slice_index_or quads i d) ≡ text
line_at quads i n d q text is at line = ap (λ (k : ℕ). canonical_line (slice_index_or quads k d)) is ∙ ap (λ (x : Quad). canonical_line x) at ∙ line
