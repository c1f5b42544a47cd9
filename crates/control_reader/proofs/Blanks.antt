-- Triples that hold a blank node.
use Rattle.std.proofs.Common.{◌≡◌, true, ◌||◌, List, subst, inl, inr, ⊎_elim}
use Rattle.std.specs.List.{Contains, list_any}
use Rattle.std.proofs.lemmas.Bool.{or_cases}
use Rattle.list_laws.proofs.Members.{some_of}
use Rattle.rdf_terms.specs.declared.term.Term.{Term}
use Rattle.rdf_terms.specs.declared.term.Term.TheVariants.{Iri, Blank, Literal}
use Rattle.rdf_terms.specs.declared.term.Triple.{Triple}
use Rattle.rdf_terms.specs.declared.term.Quad.{Quad}
use Rattle.control_triples.specs.Contents.{page_triples, IsBlank, HoldsBlank, HasBlankData}
use Rattle.control_reader.specs.Blanks.{is_blank, holds_blank}

blank_is : (t : Term) → is_blank t ≡ true → IsBlank t
blank_is (Iri text) h = absurd (cc)
blank_is (Blank label) h = tt
blank_is (Literal form kind) h = absurd (cc)

holds_is : (t : Triple) → holds_blank t ≡ true → HoldsBlank t
holds_is t h =
    ⊎_elim (λ a. inl (blank_is t.subject a)) (λ a. inr (⊎_elim (λ b. inl (blank_is t.predicate b)) (λ b. inr (blank_is t.object b)) (or_cases (is_blank t.predicate) (is_blank t.object) a)))
    (or_cases (is_blank t.subject) (is_blank t.predicate || is_blank t.object) h)

pub blank_data : (quads : List Quad) (once : List Triple) → once ≡ page_triples quads → list_any holds_blank once ≡ true → HasBlankData quads
blank_data quads once e h =
    let r = some_of holds_blank once h in
    (r.0, subst (λ (l : List Triple). Contains l r.0) e r.1, holds_is r.0 r.2)
