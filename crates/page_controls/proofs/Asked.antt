-- What is told of a topic is told of the page under its address.
use Rattle.std.proofs.Common.{ℕ, ◌≡◌, List, sym, subst, ◌∙◌, inl, inr, Result, Ok, Err}
use Rattle.rdf_terms.specs.declared.term.Term.{Term}
use Rattle.rdf_terms.specs.declared.term.Term.TheVariants.{Iri}
use Rattle.rdf_terms.specs.declared.term.Quad.{Quad}
use Rattle.rdf_terms.specs.EqualityLaws.{same_iri}
use Rattle.tpf_base.specs.Addresses.{Address, address_text, authority_of}
use Rattle.page_controls.specs.declared.told.Told.{Told}
use Rattle.fragment_page.specs.declared.page.PageFault.{PageFault}
use Rattle.control_triples.specs.Controls.{IsTopic}
use Rattle.page_controls.specs.Outcomes.{Answers}
use Rattle.control_triples.specs.Parts.{Source}
use Rattle.page_controls.specs.Stages.{TakesControls, FirstAmiss, TakesPage, WhyNoPage}

module _ (quads : List Quad) (address : Address) (s : Source) (t : Term) (same : s.quads ≡ quads) (e : t ≡ Iri s.topic) (h : (topic : List ℕ) × (t ≡ Iri topic) × IsTopic quads (address_text address) topic) where
  is_topic : IsTopic quads (address_text address) s.topic
  is_topic = subst (λ (x : List ℕ). IsTopic quads (address_text address) x) (same_iri h.0 s.topic (sym h.1 ∙ e)) h.2

  pub page_answers : (r : Result Told PageFault) → Answers (TakesControls s.quads s.topic (authority_of address)) (FirstAmiss s.quads s.topic (authority_of address)) r → Answers (TakesPage quads address) (WhyNoPage quads address) r
  page_answers (Ok told) a = record { topic = s.topic; is_topic = is_topic; controls = subst (λ (q : List Quad). TakesControls q s.topic (authority_of address) told) same a }
  page_answers (Err fault) (inl m) = inl m
  page_answers (Err fault) (inr g) = inr (inr (s.topic, is_topic, subst (λ (q : List Quad). FirstAmiss q s.topic (authority_of address) fault) same g))
