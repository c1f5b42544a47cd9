-- Terms and quads, from the parts of their texts.
use Rattle.std.proofs.Common.{◌≡◌, ℕ, List, Result, Ok, Err, ap, ◌∙◌}
use Rattle.std.specs.Prelude.{IfOk, Some}
use Rattle.rdf_terms.specs.declared.term.Term.{Term}
use Rattle.rdf_terms.specs.declared.term.Quad.{Quad}
use Rattle.rdf_terms.specs.declared.term.Triple.{Triple}
use Rattle.hydra_controls.specs.LineTexts.{text_of}
use Rattle.metadata_quads.specs.declared.quad_text.QuadText.{QuadText}
use Rattle.metadata_quads.specs.declared.term_text.TermText.{TermText}
use Rattle.metadata_quads.specs.TermTexts.{quad_of, term_as, term_of}

pub term_is : {E : Type 0} (t : TermText) (text : List ℕ) (r : Result Term E) → text ≡ text_of t.text → IfOk r (λ term. term ≡ term_as t.kind text) → IfOk r (λ term. term ≡ term_of t)
unfolding term_of
term_is t text (Ok term) is made = made ∙ ap (term_as t.kind) is
term_is t text (Err e) is made = tt

pub triple_is : (q : QuadText) (s p o : Term) → s ≡ term_of q.subject → p ≡ term_of q.predicate → o ≡ term_of q.object
    → (let triple : Triple = record { subject = s; predicate = p; object = o } in triple ≡ (quad_of q).triple)
unfolding quad_of
triple_is q s p o es ep eo = λ i. record { subject = es i; predicate = ep i; object = eo i }

pub quad_is : (q : QuadText) (t : Triple) (g : Term) → t ≡ (quad_of q).triple → g ≡ term_of q.graph → (let quad : Quad = record { triple = t; graph = Some g } in quad ≡ quad_of q)
unfolding quad_of
quad_is q t g et eg = λ i. record { triple = et i; graph = Some (eg i) }
