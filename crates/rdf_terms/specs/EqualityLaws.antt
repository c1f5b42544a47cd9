-- The tests of equality hold exactly where kinds, terms and triples are the same, so they are equivalences.
use Rattle.std.proofs.Common.{◌≡◌, Bool, true, false, ◌&&◌, List, ℕ, refl, ap}
use Rattle.std.specs.Bool.{Decides}
use Rattle.std.specs.Cmp.{IsPartialEquivalence, IsEquivalence, partial_equiv_from_equiv, decided}
use Rattle.std.proofs.lemmas.Slice.Eq.{bytes_eq-Decides}
use Rattle.std.specs.Str.{bytes_eq}
use Rattle.rdf_terms.specs.declared.term.Kind.{Kind}
use Rattle.rdf_terms.specs.declared.term.Kind.TheVariants.{Plain, Typed, Tagged}
use Rattle.rdf_terms.specs.declared.term.Term.{Term}
use Rattle.rdf_terms.specs.declared.term.Term.TheVariants.{Iri, Blank, Literal}
use Rattle.rdf_terms.specs.declared.term.Triple.{Triple}
use Rattle.rdf_terms.specs.Same.{kind_eq, term_eq, triple_eq}

pub both : (s t : Bool) {P Q : Type 0} → Decides s P → Decides t Q → Decides (s && t) (P × Q)
both true true d e = ((λ h. (d.0 refl, e.0 refl)), (λ h. refl))
both true false d e = ((λ h. cc), (λ h. e.1 h.1))
both false t d e = ((λ h. cc), (λ h. d.1 h.0))

pub same_typed : (a b : List ℕ) → Typed a ≡ Typed b → a ≡ b
same_typed a b e = cc

pub same_tagged : (a b : List ℕ) → Tagged a ≡ Tagged b → a ≡ b
same_tagged a b e = cc

pub kind_decides : (a b : Kind) → Decides (kind_eq a b) (a ≡ b)
kind_decides Plain Plain = ((λ h. refl), (λ h. refl))
kind_decides Plain (Typed b) = ((λ h. cc), (λ h. cc))
kind_decides Plain (Tagged b) = ((λ h. cc), (λ h. cc))
kind_decides (Typed a) Plain = ((λ h. cc), (λ h. cc))
kind_decides (Typed a) (Typed b) = let d = bytes_eq-Decides a b in ((λ h. ap (λ (t : List ℕ). Typed t) (d.0 h)), (λ h. d.1 (same_typed a b h)))
kind_decides (Typed a) (Tagged b) = ((λ h. cc), (λ h. cc))
kind_decides (Tagged a) Plain = ((λ h. cc), (λ h. cc))
kind_decides (Tagged a) (Typed b) = ((λ h. cc), (λ h. cc))
kind_decides (Tagged a) (Tagged b) = let d = bytes_eq-Decides a b in ((λ h. ap (λ (t : List ℕ). Tagged t) (d.0 h)), (λ h. d.1 (same_tagged a b h)))

pub same_iri : (a b : List ℕ) → Iri a ≡ Iri b → a ≡ b
same_iri a b e = cc

pub same_blank : (a b : List ℕ) → Blank a ≡ Blank b → a ≡ b
same_blank a b e = cc

pub same_form : (a b : List ℕ) (k l : Kind) → Literal a k ≡ Literal b l → a ≡ b
same_form a b k l e = cc

pub same_kind : (a b : List ℕ) (k l : Kind) → Literal a k ≡ Literal b l → k ≡ l
same_kind a b k l e = cc

pub same_literal : (a b : List ℕ) (k l : Kind) → a ≡ b → k ≡ l → Literal a k ≡ Literal b l
same_literal a b k l e f = cc

pub term_decides : (a b : Term) → Decides (term_eq a b) (a ≡ b)
term_decides (Iri a) (Iri b) = let d = bytes_eq-Decides a b in ((λ h. ap (λ (t : List ℕ). Iri t) (d.0 h)), (λ h. d.1 (same_iri a b h)))
term_decides (Iri a) (Blank b) = ((λ h. cc), (λ h. cc))
term_decides (Iri a) (Literal b l) = ((λ h. cc), (λ h. cc))
term_decides (Blank a) (Iri b) = ((λ h. cc), (λ h. cc))
term_decides (Blank a) (Blank b) = let d = bytes_eq-Decides a b in ((λ h. ap (λ (t : List ℕ). Blank t) (d.0 h)), (λ h. d.1 (same_blank a b h)))
term_decides (Blank a) (Literal b l) = ((λ h. cc), (λ h. cc))
term_decides (Literal a k) (Iri b) = ((λ h. cc), (λ h. cc))
term_decides (Literal a k) (Blank b) = ((λ h. cc), (λ h. cc))
term_decides (Literal a k) (Literal b l) =
    let d = both (bytes_eq a b) (kind_eq k l) (bytes_eq-Decides a b) (kind_decides k l) in
    ((λ h. let p = d.0 h in same_literal a b k l p.0 p.1), (λ h. d.1 (same_form a b k l h, same_kind a b k l h)))

pub same_triple : (a b : Triple) → a.subject ≡ b.subject → a.predicate ≡ b.predicate → a.object ≡ b.object → a ≡ b
same_triple a b e f g = λ i. record { subject = e i; predicate = f i; object = g i }

pub triple_decides : (a b : Triple) → Decides (triple_eq a b) (a ≡ b)
triple_decides a b =
    let d = both (term_eq a.subject b.subject) (term_eq a.predicate b.predicate && term_eq a.object b.object) (term_decides a.subject b.subject)
    (both (term_eq a.predicate b.predicate) (term_eq a.object b.object) (term_decides a.predicate b.predicate) (term_decides a.object b.object)) in (
      (λ h. let p = d.0 h in same_triple a b p.0 p.1.0 p.1.1),
      (λ h. d.1 (ap (λ (t : Triple). t.subject) h, (ap (λ (t : Triple). t.predicate) h, ap (λ (t : Triple). t.object) h))),
    )

pub kind_equiv : IsEquivalence kind_eq
kind_equiv = decided kind_eq kind_decides

pub term_equiv : IsEquivalence term_eq
term_equiv = decided term_eq term_decides

pub triple_equiv : IsEquivalence triple_eq
triple_equiv = decided triple_eq triple_decides

pub kind_per : IsPartialEquivalence kind_eq
kind_per = partial_equiv_from_equiv kind_equiv

pub term_per : IsPartialEquivalence term_eq
term_per = partial_equiv_from_equiv term_equiv

pub triple_per : IsPartialEquivalence triple_eq
triple_per = partial_equiv_from_equiv triple_equiv
