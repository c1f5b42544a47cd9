-- The lengths of canonical texts.
use Rattle.std.proofs.Common.{ℕ, ◌+◌, ◌≡◌, Bool, true, false, if◌then◌else◌, List, [], ◌∷◌, length, refl, arith, length-append}
use Rattle.rdf_terms.specs.declared.term.Term.{Term}
use Rattle.rdf_terms.specs.declared.term.Term.TheVariants.{Iri, Blank, Literal}
use Rattle.rdf_terms.specs.declared.term.Kind.{Kind}
use Rattle.rdf_terms.specs.declared.term.Kind.TheVariants.{Plain, Typed, Tagged}
use Rattle.rdf_terms.specs.Canon.{is_marked, after_mark, canonical_byte, canonical_form, canonical_kind, canonical_term, marks, kind_len, canonical_len}

byte_len : (m : Bool) (b c : ℕ) → length (if m then 92 ∷ c ∷ [] else b ∷ []) ≡ (if m then 1 else 0) + 1
byte_len true b c = refl
byte_len false b c = refl

form_len : (bs : List ℕ) → length (canonical_form bs) ≡ length bs + marks bs
form_len [] = refl
form_len (b ∷ bs) =
    let one = byte_len (is_marked b) b (after_mark b) in
    let both = length-append (canonical_byte b) (canonical_form bs) in
    omega (arith, one, both, form_len bs)

kind_len_is : (k : Kind) → length (canonical_kind k) ≡ kind_len k
kind_len_is Plain = refl
kind_len_is (Typed d) = let e = length-append d (62 ∷ []) in omega (arith, e)
kind_len_is (Tagged t) = omega arith

pub canonical_len_is : (t : Term) → length (canonical_term t) ≡ canonical_len t
canonical_len_is (Iri text) = let e = length-append text (62 ∷ []) in omega (arith, e)
canonical_len_is (Blank label) = omega arith
canonical_len_is (Literal form kind) =
    let e = length-append (canonical_form form) (34 ∷ canonical_kind kind) in
    omega (arith, e, form_len form, kind_len_is kind)
