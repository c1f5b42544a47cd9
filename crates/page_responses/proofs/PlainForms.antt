-- Forms of literals of which no byte is written with a backslash.
use Rattle.std.proofs.Common.{◌≡◌, ℕ, suc, ◌+◌, ◌≤◌, Bool, true, false, List, [], ◌∷◌, ◌++◌, length, refl, ap, sym, ◌∙◌, arith, length-append, if◌then◌else◌}
use Rattle.rdf_terms.specs.declared.term.Kind.{Kind}
use Rattle.rdf_terms.specs.declared.term.Kind.TheVariants.{Plain}
use Rattle.rdf_terms.specs.declared.term.Term.{Term}
use Rattle.rdf_terms.specs.declared.term.Term.TheVariants.{Iri, Literal}
use Rattle.triple_table.specs.Stored.{term_at}
use Rattle.page_responses.specs.Lines.{spaced_at}
use Rattle.rdf_terms.specs.Canon.{after_mark, canonical_byte, canonical_form, canonical_term, is_marked}

byte_low : (marked : Bool) (b after : ℕ) → 1 ≤ length (if marked then 92 ∷ after ∷ [] else b ∷ [])
byte_low true b after = omega arith
byte_low false b after = omega arith

form_low : (form : List ℕ) → length form ≤ length (canonical_form form)
form_low [] = omega arith
form_low (b ∷ form) = omega (arith, byte_low (is_marked b) b (after_mark b), form_low form, length-append (canonical_byte b) (canonical_form form))

plain_step : (marked : Bool) (b after : ℕ) (xs ys : List ℕ) → length ys ≤ length xs → length ((if marked then 92 ∷ after ∷ [] else b ∷ []) ++ xs) ≡ suc (length ys) → (length xs ≡ length ys → xs ≡ ys)
    → (if marked then 92 ∷ after ∷ [] else b ∷ []) ++ xs ≡ b ∷ ys
plain_step true b after xs ys low size same = absurd (omega (arith, low, size))
plain_step false b after xs ys low size same = ap (λ (l : List ℕ). b ∷ l) (same (omega (arith, size)))

-- a form that is written with as many bytes as it has is written as it is
form_is : (form : List ℕ) → length (canonical_form form) ≡ length form → canonical_form form ≡ form
form_is [] size = refl
form_is (b ∷ form) size = plain_step (is_marked b) b (after_mark b) (canonical_form form) form (form_low form) size (form_is form)

pub plain_is : (form : List ℕ) (kind : Kind) (n : ℕ) → n ≡ length (canonical_term (Literal form kind)) → kind ≡ Plain → n ≡ length form + 2 → canonical_term (Literal form kind) ≡ 34 ∷ (form ++ 34 ∷ [])
plain_is form kind n is plain size =
    let own : n ≡ length (canonical_term (Literal form Plain)) = is ∙ ap (λ (k : Kind). length (canonical_term (Literal form k))) plain in
    let long = length-append (canonical_form form) (34 ∷ []) in
    ap (λ (k : Kind). canonical_term (Literal form k)) plain ∙ ap (λ (l : List ℕ). 34 ∷ (l ++ 34 ∷ [])) (form_is form (omega (arith, own, size, long)))

-- ---- the term with an id

pub iri_at : (terms : List Term) (id : ℕ) (term : Term) (text own : List ℕ) → term ≡ term_at terms id → term ≡ Iri text → own ≡ text → (60 ∷ (own ++ 62 ∷ [])) ++ 32 ∷ [] ≡ spaced_at terms id
iri_at terms id term text own at is of = ap (λ (l : List ℕ). (60 ∷ (l ++ 62 ∷ [])) ++ 32 ∷ []) of ∙ ap (λ (t : Term). canonical_term t ++ 32 ∷ []) (sym is ∙ at)

pub plain_at : (terms : List Term) (id : ℕ) (term : Term) (form own told : List ℕ) (kind : Kind) (n : ℕ) → term ≡ term_at terms id → term ≡ Literal form kind → own ≡ form → told ≡ form → n ≡ length (canonical_term (term_at terms id))
    → (kind ≡ Plain) × (n ≡ length told + 2) → (34 ∷ (own ++ 34 ∷ [])) ++ 32 ∷ [] ≡ spaced_at terms id
plain_at terms id term form own told kind n at is of telling size plain =
    let long : n ≡ length (canonical_term (Literal form kind)) = size ∙ ap (λ (t : Term). length (canonical_term t)) (sym at ∙ is) in
    let few : n ≡ length form + 2 = plain.1 ∙ ap (λ (l : List ℕ). length l + 2) telling in
    ap (λ (l : List ℕ). (34 ∷ (l ++ 34 ∷ [])) ++ 32 ∷ []) of
    ∙ ap (λ (l : List ℕ). l ++ 32 ∷ []) (sym (plain_is form kind n long plain.0 few))
    ∙ ap (λ (t : Term). canonical_term t ++ 32 ∷ []) (sym is ∙ at)

pub other_at : (terms : List Term) (id : ℕ) (term : Term) → term ≡ term_at terms id → canonical_term term ++ 32 ∷ [] ≡ spaced_at terms id
other_at terms id term at = ap (λ (t : Term). canonical_term t ++ 32 ∷ []) at
